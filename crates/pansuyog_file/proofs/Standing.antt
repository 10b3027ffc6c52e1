-- The machine value of a place where a volume stands.
use Rattle.std.proofs.Common.{ℕ, List, [], ◌∷◌, Some, refl}
use seplogic.Ra.Ura.{Ura}
use mir.Val.{Val, vptr}
use types.Logic.{Logic}
use types.Kit.{Item, Goal, Step, step, ‵, ◌$◌, move, fjoin, fpack, feq_i}
use denote.RattleType.{Valss}
use denote.Builtin.{RawPtr}
use denote.RawPtr.{block_ptr}
use denote.Steps.{nothing}
use denote.Struct.Struct.{within}
use denote.Struct.Owning.{shape}
use Rattle.std_alloc.specs.Box.Ownership.{box_owns}
use Rattle.std.specs.contracts.alloc.Global as heap
use Rattle.std.specs.contracts.impls.GlobalAllocator.TheImpl.{ghosts}
use Rattle.pansuyog_heap.proofs.Values.{both}
use Rattle.pansuyog_file.specs.contracts.handle.Volume.{the_row as V}
use Rattle.pansuyog_file.specs.contracts.place.Place.{the_row as P, the_type as place-type}
use Rattle.pansuyog_file.specs.declared.handle.Volume.{Volume}

module _ {M : Type 1} {𝓤 : Ura M} {𝓛 : Logic 𝓤} {K : Type 0} {Γ : List (Item 𝓤)} {G : Goal 𝓤 𝓛.H} where
  pub place_in : K → (b o : ℕ) (h : Val) (a : heap.the_row.Denot) (x : Volume)
      → Step K 𝓛 (‵ (P.own_val (record { at = block_ptr b o; alloc = a; volume = Some x }) (both (vptr b o) h ∷ [])) ∷ Γ) G
      (‵ (box_owns (ghosts.dealloc_token a) V (block_ptr b o) x) ∷ ‵ (heap.the_row.own_val a (h ∷ [])) ∷ Γ) G
  place_in t b o h a x = step (λ s. let v : Val = both (vptr b o) h in
      nothing t $ move t (2 ∷ 0 ∷ []) $ fjoin t $ feq_i t (List Val) (vptr b o ∷ []) (vptr b o ∷ []) refl $ fjoin t $
      feq_i t (List Val) (v ∷ []) (v ∷ []) refl $ fjoin t $
      fpack t (Valss (RawPtr ∷ heap.the_row ∷ [])) (within (shape place-type) (block_ptr b o, (((tt, tt), tt), tt)) (v ∷ []))
      (vptr b o ∷ [], (h ∷ [], tt)) $ fjoin t $ s)
