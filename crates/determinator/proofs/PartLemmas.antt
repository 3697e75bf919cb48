-- A base part, order by order: what agrees with a jet up to its order has its part, and the base kill of an order leaves no lead of that degree.
use Rattle.std.proofs.Common.{◌≡◌, ◌≢◌, ℕ, suc, ◌≤◌, ◌⊎◌, inl, inr, Bool, true, false, List, get_or, length, refl, sym, ap, subst, ◌∙◌, arith}
use Rattle.std.specs.Prelude.{Contains}
use Rattle.ring_theory.specs.Scalars.{Scalars, ScalarLaws, HasInverses}
use Rattle.ring_theory.proofs.ValueSet.{values_are_set}
use Rattle.poly_law.specs.Exps.{degree}
use Rattle.poly_law.specs.ExpList.{ExpList, exps}
use Rattle.poly_law.specs.Polynomials.{Polynomial, SameToIn, coefficient_in, substitute}
use Rattle.poly_law.proofs.ExpLists.{exps_are}
use Rattle.poly_law.proofs.SubstOrder
use Rattle.jet_law.specs.Canonical.{monomial_in}
use Rattle.kill_law.specs.declared.lead.Lead.{Lead}
use Rattle.kill_law.specs.declared.part.Part.{Part}
use Rattle.kill_law.specs.Table.{row}
use Rattle.kill_law.specs.Kill.{letters_of, divides}
use Rattle.kill_law.specs.Leads.{form_of}
use Rattle.kill_law.specs.Taken.{kill_move}
use Rattle.coord_change.specs.Moves.{Move, put}
use Rattle.coord_change.specs.Carries.{carry}
use Rattle.coord_change.proofs.Canonicals.{jet_of_same}
use Rattle.move_law.specs.Moves.{made}
use Rattle.split_lemma.specs.SplitForms.{IsSplitUpTo}
use Rattle.split_lemma.proofs.Residuals
use Rattle.kept_law.specs.KeptParts.{HasForm, KillKeepsPart, StartsAtPart, kill_off}
use Rattle.kept_law.proofs.Agreeing
use Rattle.kept_law.proofs.KillLeads
use Rattle.kept_law.proofs.KillMoves
use Rattle.rules_corank2.specs.Extends.{base_kill}
use Rattle.rules_corank2.specs.Parts.{HaveUnits, has_a}
use Rattle.rules_corank2.proofs.MadeMoves.{made_same}
use Rattle.determinator.specs.PartPlaces.{HasBasePart, IsKilledTo}
use Rattle.determinator.proofs.PartTables

-- a number up to o + 1 is o + 1 or less
last_or_less : (d o : ℕ) → d ≤ suc o → (d ≤ o) ⊎ (d ≡ suc o)
last_or_less d o h = grind arith

module _ {V : Type 0} (n : ℕ) (s : Scalars V) (laws : ScalarLaws s) where
  -- a jet is carried by a move as it is made as by the move
  carry_made : (k : ℕ) → k ≤ 16 → (move : Move n V) (f : Polynomial n V) → carry n s k (made n s move) f ≡ carry n s k move f
  unfolding carry
  carry_made k h move f =
      jet_of_same n s laws k (substitute n n s.ops (put n s (made n s move)) f) (substitute n n s.ops (put n s move) f)
      (SubstOrder.parts_same_to (exps n) (exps_are n) (exps n) (exps_are n) s.ops laws.ring (values_are_set s laws) k (put n s (made n s move)) (put n s move)
      (λ i g b low. made_same n s laws move i b (omega arith)) f)

  pub kill_carried : (p : Part) (o : ℕ) → suc o ≤ 16 → (c : ℕ) (f : Polynomial n V) → carry n s (suc o) (base_kill n s p (suc o) f) f ≡ kill_off n s c (suc o) p f
  kill_carried p o h c f = carry_made (suc o) h (kill_move n s (letters_of n s p f) p (suc o) f) f

  module _ (c : ℕ) (fewer : c ≤ n) (p : Part) where
    -- ---- what agrees with a jet that has the part

    letters_same : (o : ℕ) → (row p).degree ≤ o → (f g : Polynomial n V) → SameToIn n s.ops o f g → letters_of n s p f ≡ letters_of n s p g
    letters_same o h f g e = Agreeing.letters_agree s n o p h f g e

    units_same : (f g : Polynomial n V) → letters_of n s p f ≡ letters_of n s p g → HaveUnits n s p g → HaveUnits n s p f
    units_same f g e h = record {
      a = λ t. subst (λ (ls : List V). get_or ls 0 s.ops.zero ≢ s.ops.zero) (sym e) (h.a t);
      b = λ t. subst (λ (ls : List V). get_or ls 1 s.ops.zero ≢ s.ops.zero) (sym e) (h.b t);
    }

    form_same : (o : ℕ) → (row p).degree ≤ o → (f g : Polynomial n V) → SameToIn n s.ops o f g → HasForm n s c p g → HasForm n s c p f
    form_same o h f g e form b d =
        e (Residuals.placed n c fewer s laws b) (let q = Residuals.degree-placed n c fewer s laws b in omega arith)
        ∙ form b d
        ∙ ap (λ ls. coefficient_in c s.ops (form_of s ls c p) b) (sym (letters_same o h f g e))

    killed_same : (o : ℕ) (f g : Polynomial n V) → SameToIn n s.ops o f g → IsKilledTo n s o p g → IsKilledTo n s o p f
    killed_same o f g e h l among m above low divided = e m low ∙ h l among m above low divided

    -- up to degree o, where nothing residual stands below the degree of the part
    pub part_agrees : (o k j : ℕ) (f g : Polynomial n V) → SameToIn n s.ops o f g → HasBasePart n s c j o p g → StartsAtPart n s c k p f → HasBasePart n s c k o p f
    part_agrees o k j f g e h low = record {
      two = h.two;
      base = h.base;
      degree = h.degree;
      low = low;
      form = λ t. form_same o h.degree f g e (h.form t);
      units = units_same f g (letters_same o h.degree f g e) h.units;
      killed = killed_same o f g e h.killed;
    }

    -- so it is at the next order
    pub part_stays : (o : ℕ) (f g : Polynomial n V) → SameToIn n s.ops o f g → HasBasePart n s c o o p g → HasBasePart n s c (suc o) o p f
    part_stays o f g e h = part_agrees o (suc o) o f g e h (Agreeing.low_agrees s laws n c o (suc o) p fewer h.degree (omega arith) f g e h.low)

    -- ---- the base kill of order o + 1

    module _ (o : ℕ) (f : Polynomial n V) (split : IsSplitUpTo n s c (suc o) f) (h : HasBasePart n s c (suc o) o p f) where
      size : length (row p).weights ≡ c
      size = PartTables.two_weights p h.base ∙ sym h.two

      pub kept : KillKeepsPart n s c o p f
      kept = KillMoves.all_kills_keep s laws n c o p fewer size (PartTables.is_base_part p h.base) h.degree f split h.low

      module _ (inverts : HasInverses s) where
        leadless : has_a p ≡ false → (l : Lead) → Contains (row p).leads l → ⊥
        leadless e l among = let none = PartTables.without_leads p h.base e in let some = among.1 in omega arith

        -- no lead of that degree is left
        none_left : (b : Bool) → has_a p ≡ b → (l : Lead) → Contains (row p).leads l → (m : ExpList n) → degree (exps n) m ≡ suc o → divides n (monomial_in n l.monomial) m ≡ true
            → coefficient_in n s.ops (kill_off n s c (suc o) p f) m ≡ s.ops.zero
        none_left false e l among m at divided = absurd (leadless e l among)
        none_left true e l among m at divided =
            KillLeads.kills_leave_no_lead s laws n c o p fewer size (PartTables.is_base_part p h.base) h.degree f split h.low (h.form e)
            (PartTables.invertible p h.base n s f h.units laws inverts) l among m at divided

        killed_next : IsKilledTo n s (suc o) p (kill_off n s c (suc o) p f)
        killed_next l among m above low divided = elim (last_or_less (degree (exps n) m) o low) [
          | inl less ↦ kept.below m less ∙ h.killed l among m above less divided
          | inr at ↦ none_left (has_a p) refl l among m at divided
        ]

        pub part_killed : HasBasePart n s c (suc o) (suc o) p (kill_off n s c (suc o) p f)
        part_killed =
            let q = part_agrees o (suc o) (suc o) (kill_off n s c (suc o) p f) f kept.below h kept.low in
            record { two = q.two; base = q.base; degree = (let d = q.degree in omega arith); low = q.low; form = q.form; units = q.units; killed = killed_next }
