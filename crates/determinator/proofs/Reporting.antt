-- The answers report the plan's outcomes, and are true of the germ.
use Rattle.std.proofs.Common.{◌≡◌, ℕ, ◌≤◌, Some, List, refl, sym, ap, subst}
use Rattle.ring_theory.specs.Rational.{Rational}
use Rattle.ring_law.specs.declared.fraction.Frac.{Frac}
use Rattle.ext_algebra.specs.declared.algebra.Algebra.{Algebra}
use Rattle.ext_algebra.specs.declared.algebra.Ext.{Ext}
use Rattle.ext_algebra.specs.Algebra.{Value, IsFieldAlgebra}
use Rattle.poly_law.specs.Polynomials.{Polynomial}
use Rattle.mono_exp.specs.declared.exponent.Exp.{Exp}
use Rattle.coord_change.specs.Moves.{Move}
use Rattle.determinacy.specs.declared.row.MatherRow.{MatherRow}
use Rattle.normal_forms.specs.declared.pattern.Pattern.{Pattern}
use Rattle.poly_text.specs.declared.name.Name.{Name}
use Rattle.cert_text.specs.declared.report.Carried as carried_type
use Rattle.cert_text.specs.declared.report.Answer.TheVariants as answers
use Rattle.coord_change.specs.Chains.{ChainParts, carried_in}
use Rattle.plan_law.specs.Outcomes as outcomes
use Rattle.plan_law.specs.Outcomes.{Outcome}
use Rattle.plan_law.specs.Run.{brought, carried_by}
use Rattle.determinator.specs.Carried.{with_parts, IsCarriedFrom, IsPastList}
use Rattle.determinator.specs.Jets.{AreRowsFor, IsFailureFor}
use Rattle.determinator.specs.Places.{IsPlace}
use Rattle.determinator.specs.Reports.{AreNames, IsReport}
use Rattle.determinator.proofs.Carrying.{planned}
use Rattle.determinator.proofs.GermReports

-- what a report carries, with its parts
pub from_parts : (names : List Name) (n c : ℕ) (a : Algebra) (o : ℕ) (moves : List (Move n (Value a))) (chain : ChainParts (Ext Frac)) (r : carried_type.Carried) → (h : IsCarriedFrom names n c a o moves chain r)
    → IsCarriedFrom names n c a o moves chain (with_parts names a o c h.change (carried_in chain))
from_parts names n c a o moves chain r h = record { change = h.change; change_is = h.change_is; parts_listed = h.parts_listed; jet_listed = h.jet_listed; is = refl }

-- ---- without a name

module _ (names : List Name) (n : ℕ) (are : AreNames n names) (c last : ℕ) (germ : Polynomial n Rational) (a : Algebra) (field : IsFieldAlgebra a) (o : ℕ) (moves : List (Move n (Value a))) (chain : ChainParts (Ext Frac))
    (place_is : IsPlace n c last germ a o moves chain) (r : carried_type.Carried) (h : IsCarriedFrom names n c a o moves chain r) where
  pub limit_report : o ≡ last → 3 ≤ o → c ≤ 3 → (functional : List (Exp × Ext Frac)) (at : Exp) → IsFailureFor a c (carried_in chain) functional at
      → IsReport names n last germ (answers.Limit (record { carried = r; at = at; functional = functional })) (outcomes.limit (carried_by n c germ a o moves (brought n c germ a o moves)))
  limit_report at_last three low functional at failure =
      subst (λ q. IsReport names n last germ (answers.Limit (record { carried = q; at = at; functional = functional })) (outcomes.limit (carried_by n c germ a o moves (brought n c germ a o moves)))) (sym h.is)
      (record {
        reports = ap (λ q. Some (outcomes.limit q)) (planned n c last germ a o moves chain place_is names h.change h.change_is);
        is_true = GermReports.limit_germ names n are c last germ a field o moves chain place_is h.change h.jet_listed (from_parts names n c a o moves chain r h) low at_last three functional at failure;
      })

  pub unresolved_report : c ≤ 3 → (rows : List (MatherRow (Ext Frac))) → AreRowsFor a c (carried_in chain) rows
      → IsReport names n last germ (answers.Unresolved (record { carried = r; mather = rows })) (outcomes.unresolved (carried_by n c germ a o moves (brought n c germ a o moves)))
  unresolved_report low rows rows_are =
      subst (λ q. IsReport names n last germ (answers.Unresolved (record { carried = q; mather = rows })) (outcomes.unresolved (carried_by n c germ a o moves (brought n c germ a o moves)))) (sym h.is)
      (record {
        reports = ap (λ q. Some (outcomes.unresolved q)) (planned n c last germ a o moves chain place_is names h.change h.change_is);
        is_true = GermReports.unresolved_germ names n are c last germ a field o moves chain place_is h.change h.jet_listed (from_parts names n c a o moves chain r h) low rows rows_are;
      })

  -- ---- past the list

  pub outside_report : (pattern : Pattern) → IsPastList n c o a pattern (brought n c germ a o moves)
      → IsReport names n last germ (answers.Outside (record { pattern = pattern; carried = r })) (outcomes.outside pattern (carried_by n c germ a o moves (brought n c germ a o moves)))
  outside_report pattern past =
      subst (λ q. IsReport names n last germ (answers.Outside (record { pattern = pattern; carried = q })) (outcomes.outside pattern (carried_by n c germ a o moves (brought n c germ a o moves)))) (sym h.is)
      (record {
        reports = ap (λ q. Some (outcomes.outside pattern q)) (planned n c last germ a o moves chain place_is names h.change h.change_is);
        is_true = GermReports.outside_germ names n are c last germ a field o moves chain place_is h.change h.jet_listed (from_parts names n c a o moves chain r h) pattern past;
      })
