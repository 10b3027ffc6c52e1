-- What the words of a command line ask for. The command line is an own choice.
use Rattle.std.specs.Prelude.{◌≡◌, ℕ, List, Any, String, string_bytes}
use Rattle.std.specs.declared.alloc.Global.{Global}
use Rattle.lfs_grammar.specs.declared.request.Request.{Request}
use Rattle.lfs_grammar.specs.declared.request.Request.TheVariants.{Strict}

-- one of the words has this text
abbrev pub HasWord : List (String Global) → List ℕ → Type 0
HasWord words text = Any (λ word. string_bytes word ≡ text) words

-- a script that ends at the first refusal
abbrev pub IsStrict : Request → Type 0
IsStrict (Strict image) = Unit {0}
IsStrict _ = ⊥
