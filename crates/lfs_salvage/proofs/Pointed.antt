-- The sectors of an object's blocks, by what a walk over them has at hand.
use Rattle.std.proofs.Common.{◌≡◌, ◌<◌, ◌≤◌, ◌-◌, ◌%◌, ⊎_elim, ℕ, zero, suc, nat_lt, List, get_or, Some}
use Rattle.std.proofs.Common.{None, Option, IfSome, sym, ◌∙◌, ap, ap₂, subst, arith}
use Rattle.std.specs.List.{slice_get}
use Rattle.std.proofs.lemmas.Bool.{cases_lt, cond-true, cond-false, lt-ltb, le-ltb}
use Rattle.std.proofs.lemmas.Option.{IfSome_then, get_or_from_slice_get, slice_get_within}
use Rattle.lfs_model.specs.Content.{Content, block}
use Rattle.lfs_model.specs.Entry.{word}
use Rattle.lfs_model.specs.Fields.{read32}
use Rattle.lfs_model.specs.Inode.{InodeValue}
use Rattle.lfs_model.specs.Pointers.{FitsPointers, pointer_sector, pointers_of}
use Rattle.lfs_model.specs.Reach.{address, inode_block, leaf_address}
use Rattle.lfs_model.proofs.PointerPlaces.{pointers_back}
use Rattle.lfs_model.proofs.Runs.{length-run}
use Rattle.lfs_model.proofs.Words.{inode_words, pointer_word}
use Rattle.lfs_salvage.specs.Blocks.{AddressesAgree, HoldsAddresses, block_address, row_address, row_place}
use Rattle.lfs_salvage.specs.declared.blocks.Row.{Row}

-- a block's addresses are those that stand at its places
pub pointers_given : {s ns : List ℕ} → FitsPointers ns → s ≡ pointer_sector ns → ns ≡ pointers_of s
pointers_given {s} {ns} fits is = sym (pointers_back ns fits) ∙ ap pointers_of (sym is)

word_given : (s : List ℕ) {ns : List ℕ} (j sector : ℕ) → ns ≡ pointers_of s → slice_get ns j ≡ Some sector → sector ≡ word s j
word_given s {ns} j sector are got =
    let there : slice_get (pointers_of s) j ≡ Some sector = ap (λ l. slice_get l j) (sym are) ∙ got in
    let low : j < 128 = omega (arith, slice_get_within (pointers_of s) j sector there, length-run read32 4 128 0 s) in
    sym (get_or_from_slice_get (pointers_of s) j sector 0 there) ∙ pointer_word s j low

-- what a block of pointers that is at hand gives at a place
words_given : (s : List ℕ) {ns : List ℕ} (j : ℕ) (found : Option ℕ) → ns ≡ pointers_of s → found ≡ slice_get ns j
    → IfSome found (λ sector. sector ≡ word s j)
words_given s j None are got = tt
words_given s j (Some sector) are got = word_given s j sector are (sym got)

above_direct : (content : Content) (inode : InodeValue) (i : ℕ) → 112 ≤ i → block_address content inode i
    ≡ word (block content (row_address content inode (row_place i))) ((i - 112) % 128)
above_direct content inode i high = cond-false (nat_lt i 112) (get_or inode.direct i 0) _ (le-ltb i 112 high)

-- the address of a block, in the row at hand
pub block_in_row : (content : Content) (inode : InodeValue) (i j : ℕ) (row : Row) (found : Option ℕ) → 112 ≤ i → row.place ≡ row_place i
    → row.addresses ≡ pointers_of (block content (row_address content inode row.place)) → j ≡ (i - 112) % 128
    → found ≡ slice_get row.addresses j → IfSome found (λ sector. sector ≡ block_address content inode i)
block_in_row content inode i j row found high place are at got =
    let whole : block_address content inode i ≡ word (block content (row_address content inode row.place)) j =
    above_direct content inode i high
    ∙ ap₂ (λ q m. word (block content (row_address content inode q)) m) (sym place) (sym at) in
    IfSome_then found (words_given (block content (row_address content inode row.place)) j found are got)
    (λ sector is. is ∙ sym whole)

-- the address of a row, in the double root at hand
pub row_in_root : (content : Content) (inode : InodeValue) {q : ℕ} (j : ℕ) {root : List ℕ} (found : Option ℕ) → suc j ≡ q
    → root ≡ pointers_of (block content inode.double) → found ≡ slice_get root j
    → IfSome found (λ sector. sector ≡ row_address content inode q)
row_in_root content inode j found next are got =
    subst (λ p. IfSome found (λ sector. sector ≡ row_address content inode p)) next
    (words_given (block content inode.double) j found are got)

-- addresses that were read from the content
pub follows_row : (content : Content) (inode : InodeValue) {root : Option (List ℕ)} (last : Option Row) (place : ℕ) {ns bytes : List ℕ}
    → block content (row_address content inode place) ≡ bytes → ns ≡ pointers_of bytes → HoldsAddresses content inode last root
    → HoldsAddresses content inode (Some record { place = place; addresses = ns }) root
follows_row content inode last place is are was = record { row = are ∙ ap pointers_of (sym is); root = was.root }

pub follows_root : (content : Content) (inode : InodeValue) {last : Option Row} (root : Option (List ℕ)) {ns bytes : List ℕ}
    → block content inode.double ≡ bytes → ns ≡ pointers_of bytes → HoldsAddresses content inode last root
    → HoldsAddresses content inode last (Some ns)
follows_root content inode root is are was = record { row = was.row; root = are ∙ ap pointers_of (sym is) }

-- the log of a volume has its blocks where the inode has them
pub addresses_agree : AddressesAgree
unfolding address
addresses_agree content k n inode spelt i =
    let words = inode_words (inode_block content k n) inode spelt in
    ⊎_elim
    (λ (low : i < 112). cond-true (nat_lt i 112) _ _ (lt-ltb i 112 low) ∙ words.direct i low
    ∙ sym (cond-true (nat_lt i 112) _ _ (lt-ltb i 112 low)))
    (λ (high : 112 ≤ i). cond-false (nat_lt i 112) _ _ (le-ltb i 112 high)
    ∙ ap (λ x. word (block content x) ((i - 112) % 128)) (row_is (row_place i))
    ∙ sym (cond-false (nat_lt i 112) _ _ (le-ltb i 112 high)))
    (cases_lt i 112)
  where
    row_is : (q : ℕ) → leaf_address content k n q ≡ row_address content inode q
    row_is zero = (inode_words (inode_block content k n) inode spelt).single
    row_is (suc q) = ap (λ x. word (block content x) q) (inode_words (inode_block content k n) inode spelt).double
