-- An optional value that is there, and one that is not.
use Rattle.std.proofs.Common.{◌≡◌, ℕ, Bool, true, false, List, Option, Some, subst}
use Rattle.std.specs.Prelude.{Result, IfSome, IfErr}
use Rattle.std.proofs.lemmas.Result.{IfErr-weaker}
use Rattle.report_reader.specs.declared.halt.Halt.{Halt}
use Rattle.report_reader.specs.Blocks.{IsStop, IsHalt}
use Rattle.report_reader.proofs.Stops.{halt_map}

pub some_is : {X : Type 0} (r : Option X) (x : X) (Q : X → Type 0) → r ≡ Some x → IfSome r Q → Q x
some_is r x Q e h = subst (λ o. IfSome o Q) e h

-- a halt that is handed on
pub err_map : {X A B : Type 0} (r : Result X Halt) (first : A → Type 0) (front : A → List ℕ) (some : List ℕ) (valid : B → Type 0) (text : B → List ℕ) (bytes : List ℕ)
    → ((left : ℕ) → IsStop first front some left → IsStop valid text bytes left) → IfErr r (IsHalt first front some) → IfErr r (IsHalt valid text bytes)
err_map r first front some valid text bytes f h = IfErr-weaker r (IsHalt first front some) (IsHalt valid text bytes) (halt_map first front some valid text bytes f) h

pub not_both : (b : Bool) → b ≡ false → b ≡ true → ⊥
not_both true f t = cc
not_both false f t = cc
