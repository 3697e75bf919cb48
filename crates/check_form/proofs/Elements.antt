-- What well-formed reports say of their elements.
use Rattle.std.proofs.Common.{IsTrue, List, [], ◌∷◌}
use Rattle.std.specs.Prelude.{◌&&◌}
use Rattle.std.specs.List.{All, AllByRecursion, list_all}
use Rattle.ring_law.specs.declared.fraction.Frac.{Frac}
use Rattle.ext_algebra.specs.declared.algebra.Algebra.{Algebra}
use Rattle.ext_algebra.specs.declared.algebra.Ext.{Ext}
use Rattle.ext_algebra.specs.Algebra.{IsElement, is_element}
use Rattle.ext_algebra.proofs.ElementTests.{is_element-IsElement}
use Rattle.jet_poly.proofs.Output.{to-all}
use Rattle.normal_forms.proofs.FormTerms.{and_true}

both_elements : (a : Algebra) (us : List (Ext Frac × Ext Frac)) → IsTrue (list_all (λ u. is_element a u.0 && is_element a u.1) us)
    → AllByRecursion (λ u. IsElement a u.0 × IsElement a u.1) us
both_elements a [] h = tt
both_elements a (u ∷ us) h =
    let all = and_true (is_element a u.0 && is_element a u.1) (list_all (λ v. is_element a v.0 && is_element a v.1) us) h in
    let both = and_true (is_element a u.0) (is_element a u.1) all.0 in
    (((is_element-IsElement a u.0).0 both.0, (is_element-IsElement a u.1).0 both.1), both_elements a us all.1)

-- the printed units are valid elements
pub first_elements : (a : Algebra) (us : List (Ext Frac × Ext Frac)) → IsTrue (list_all (λ u. is_element a u.0 && is_element a u.1) us) → All (λ u. IsElement a u.0) us
first_elements a us h k d within = (to-all (λ u. IsElement a u.0 × IsElement a u.1) us (both_elements a us h) k d within).0

-- and their printed inverses
pub second_elements : (a : Algebra) (us : List (Ext Frac × Ext Frac)) → IsTrue (list_all (λ u. is_element a u.0 && is_element a u.1) us) → All (λ u. IsElement a u.1) us
second_elements a us h k d within = (to-all (λ u. IsElement a u.0 × IsElement a u.1) us (both_elements a us h) k d within).1
