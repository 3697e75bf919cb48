-- Which monomials the leads of a graded part leave, above the weighted degree of its form: a pure power of each variable is divided, so that a computation over a box of
-- monomials shows it for all.
use Rattle.std.proofs.Common.{◌≡◌, ℕ, zero, suc, ◌<◌, ◌≤◌, ◌⊎◌, inl, inr, Bool, true, false, ◌&&◌, ◌||◌, not, cond, eqb, eqb-true, leb, leb-true, le-leb, List, [], ◌∷◌, map, get_or, length, refl, sym, ap, subst, ◌∙◌, arith}
use Rattle.std.specs.Prelude.{Contains}
use Rattle.std.specs.List.{list_all, list_any}
use Rattle.std.proofs.lemmas.Map.Views.{Contains-from_any}
use Rattle.poly_law.specs.Exps.{all_to, same}
use Rattle.poly_law.specs.ExpList.{ExpList, exps}
use Rattle.poly_law.proofs.ExpLists.{exps_are}
use Rattle.poly_law.proofs.ExpLaws
use Rattle.mono_exp.specs.Exponents.{weighted_degree_of}
use Rattle.jet_law.specs.Canonical.{monomial_in}
use Rattle.normal_forms.specs.declared.family.Family.{Family}
use Rattle.normal_forms.specs.Families.{sum_of}
use Rattle.kill_law.specs.declared.part.Part.{Part}
use Rattle.kill_law.specs.declared.part.Part.TheVariants as parts
use Rattle.kill_law.specs.Table.{row}
use Rattle.kill_law.specs.Kill.{divides}
use Rattle.move_law.specs.Finish.{Choice, choices}
use Rattle.kept_law.specs.KeptParts.{IsDivided, LeavesModulus, LeavesPowers, ChoicesLeaveModulus, TailLeavesPowers}
use Rattle.kept_law.proofs.Agreeing.{and_left, and_right}
use Rattle.kept_law.proofs.LeadTable.{passes}

-- ---- lists of exponents below a bound

-- whether p holds for all lists of n exponents below b
abbrev box : ℕ → ℕ → (List ℕ → Bool) → Bool
box zero b p = p []
box (suc n) b p = all_to b (λ i. box n b (λ e. p (i ∷ e)))

box_at : (n b : ℕ) (p : List ℕ → Bool) → box n b p ≡ true → (e : List ℕ) → length e ≡ n → ((i : ℕ) → i < n → get_or e i 0 < b) → p e ≡ true
box_at zero b p h [] l low = h
box_at zero b p h (k ∷ e) l low = absurd (omega arith)
box_at (suc n) b p h [] l low = absurd (omega arith)
box_at (suc n) b p h (k ∷ e) l low =
    box_at n b (λ e. p (k ∷ e)) (ExpLaws.all_to_at b (λ i. box n b (λ e. p (i ∷ e))) h k (low zero (omega arith))) e (omega arith) (λ i g. low (suc i) (omega arith))

low_or_high : (k b : ℕ) → (k < b) ⊎ (b ≤ k)
low_or_high k b = grind arith

last_or_below : (i n : ℕ) → i < suc n → (i < n) ⊎ (i ≡ n)
last_or_below i n h = grind arith

-- all exponents are below b, or one is not
all_low : (b n : ℕ) (w : ℕ → ℕ) → ((i : ℕ) → i < n → w i < b) ⊎ ((i : ℕ) × (i < n) × (b ≤ w i))
all_low b zero w = inl (λ i h. absurd (omega arith))
all_low b (suc n) w = elim (low_or_high (w n) b) [
  | inr high ↦ inr (n, omega arith, high)
  | inl low ↦ elim (all_low b n w) [
    | inr v ↦ inr (v.0, (let q : v.0 < n = v.1 in omega arith), v.2)
    | inl rest ↦ inl (λ i h. elim (last_or_below i n h) [ inl g ↦ rest i g | inr e ↦ subst (λ k. w k < b) (sym e) low ])
  ]
]

-- an element that passes a test
found : {A : Type 0} (p : A → Bool) (xs : List A) → list_any p xs ≡ true → (x : A) × (p x ≡ true) × Contains xs x
found {A = A} p [] h = let bad : ⊥ = cc h in absurd bad
found {A = A} p (x ∷ xs) h = step (p x) refl h (found p xs)
  where
    step : (b : Bool) → p x ≡ b → (b || list_any p xs) ≡ true → (list_any p xs ≡ true → (y : A) × (p y ≡ true) × Contains xs y) → (y : A) × (p y ≡ true) × Contains (x ∷ xs) y
    step true q h rest = (x, q, (0, omega arith, refl))
    step false q h rest = let y = rest h in let k = y.2 in (y.0, y.1, (suc k.0, (let z : k.0 < length xs = k.1 in omega arith), k.2))

or_cases : (a b : Bool) → (a || b) ≡ true → (a ≡ true) ⊎ (b ≡ true)
or_cases true b h = inl refl
or_cases false b h = inr h

module _ (p : Part) where
  abbrev c : ℕ
  c = length (row p).weights

  abbrev weight : List ℕ → ℕ
  weight e = weighted_degree_of (row p).weights e

  -- a lead divides this monomial
  abbrev is_divided : ExpList c → Bool
  is_divided b = list_any (λ l. divides c (monomial_in c l.monomial) b) (row p).leads

  divided_by : (b : ExpList c) → is_divided b ≡ true → IsDivided p b
  divided_by b h = let l = found (λ l. divides c (monomial_in c l.monomial) b) (row p).leads h in record { lead = l.0; among = l.2; divided = l.1 }

  -- and all multiples of it
  multiple_divided : (a b : ExpList c) → IsDivided p a → ((i : ℕ) → i < c → get_or a.entries i 0 ≤ get_or b.entries i 0) → IsDivided p b
  multiple_divided a b h le = record {
    lead = h.lead;
    among = h.among;
    divided = ExpLaws.all_to_from c (λ i. leb (get_or (monomial_in c h.lead.monomial).entries i 0) (get_or b.entries i 0)) λ i g.
        let x = leb-true (get_or (monomial_in c h.lead.monomial).entries i 0) (get_or a.entries i 0)
        (ExpLaws.all_to_at c (λ i. leb (get_or (monomial_in c h.lead.monomial).entries i 0) (get_or a.entries i 0)) h.divided i g) in
        let y = le i g in
        le-leb (get_or (monomial_in c h.lead.monomial).entries i 0) (get_or b.entries i 0) (omega arith);
  }

  -- where no lead of a list divides a monomial
  not_divided : (m : ExpList c) → list_all (λ l. not (divides c (monomial_in c l.monomial) m)) (row p).leads ≡ true → IsDivided p m → ⊥
  not_divided m h d = contrary (passes (λ l. not (divides c (monomial_in c l.monomial) m)) (row p).leads d.lead h d.among) d.divided
    where
      contrary : {x : Bool} → not x ≡ true → x ≡ true → ⊥
      contrary y z = let q : false ≡ true = sym (ap not z) ∙ y in cc q

  own_entries : (b : ExpList c) → monomial_in c b.entries ≡ b
  own_entries b = (exps_are c).same_at (monomial_in c b.entries) b (λ i h. (exps_are c).at_make (λ i. get_or b.entries i 0) i h)

  -- ---- a power of each variable

  -- the power k of variable i
  abbrev pure : ℕ → ℕ → ExpList c
  pure k i = (exps c).make (λ j. cond (eqb j i) k 0)

  pure_at_most : (k i : ℕ) (m : ExpList c) → k ≤ get_or m.entries i 0 → (j : ℕ) → j < c → get_or (pure k i).entries j 0 ≤ get_or m.entries j 0
  pure_at_most k i m h j g = subst (λ z. z ≤ get_or m.entries j 0) (sym ((exps_are c).at_make (λ j. cond (eqb j i) k 0) j g)) (step (eqb j i) refl)
    where
      step : (x : Bool) → eqb j i ≡ x → cond x k 0 ≤ get_or m.entries j 0
      step false q = omega arith
      step true q = subst (λ z. k ≤ get_or m.entries z 0) (sym (eqb-true j i q)) h

  -- a monomial is divided by a lead or has exponents below the powers that are
  divided_or_low : (k : ℕ) → all_to c (λ i. is_divided (pure k i)) ≡ true → (m : ExpList c) → IsDivided p m ⊎ ((i : ℕ) → i < c → get_or m.entries i 0 < k)
  divided_or_low k h m = elim (all_low k c (λ i. get_or m.entries i 0)) [
    | inl low ↦ inr low
    | inr v ↦ inl (multiple_divided (pure k v.0) m (divided_by (pure k v.0) (ExpLaws.all_to_at c (λ i. is_divided (pure k i)) h v.0 v.1)) (pure_at_most k v.0 m v.2))
  ]

  -- ---- the modulus monomial

  module _ (family : Family) (k : ℕ) where
    abbrev in_sum : ExpList c → Bool
    in_sum m = list_any (same (exps c) m) (map (monomial_in c) (sum_of family))

    abbrev is_light : List ℕ → Bool
    is_light e = leb (weight e) (row p).degree

    abbrev only_sum : Bool
    only_sum = box c k (λ e. is_divided (monomial_in c e) || (is_light e || in_sum (monomial_in c e)))

    abbrev sum_stays : Bool
    sum_stays = list_all (λ m. is_light m || list_all (λ l. not (divides c (monomial_in c l.monomial) (monomial_in c m))) (row p).leads) (sum_of family)

    abbrev leaves : Bool
    leaves = all_to c (λ i. is_divided (pure k i)) && (only_sum && sum_stays)

    heavy : (e : List ℕ) → (row p).degree < weight e → is_light e ≡ true → ⊥
    heavy e h q = let g = leb-true (weight e) (row p).degree q in omega arith

    leaves_modulus : leaves ≡ true → LeavesModulus p family
    leaves_modulus h = record { only = only; stays = stays }
      where
        rest : (only_sum && sum_stays) ≡ true
        rest = and_right (all_to c (λ i. is_divided (pure k i))) (only_sum && sum_stays) h

        low : (b : ExpList c) → (row p).degree < weight b.entries → ((i : ℕ) → i < c → get_or b.entries i 0 < k) → IsDivided p b ⊎ Contains (map (monomial_in c) (sum_of family)) b
        low b g small =
            elim (or_cases (is_divided (monomial_in c b.entries)) (is_light b.entries || in_sum (monomial_in c b.entries))
            (box_at c k (λ e. is_divided (monomial_in c e) || (is_light e || in_sum (monomial_in c e))) (and_left only_sum sum_stays rest) b.entries b.long small)) [
              | inl d ↦ inl (divided_by b (ap is_divided (sym (own_entries b)) ∙ d))
              | inr o ↦ elim (or_cases (is_light b.entries) (in_sum (monomial_in c b.entries)) o) [
                | inl light ↦ absurd (heavy b.entries g light)
                | inr s ↦ inr (Contains-from_any (ExpLaws.same-eq (exps c) (exps_are c)) b (map (monomial_in c) (sum_of family)) (ap in_sum (sym (own_entries b)) ∙ s))
              ]
            ]

        only : (b : ExpList c) → (row p).degree < weight b.entries → IsDivided p b ⊎ Contains (map (monomial_in c) (sum_of family)) b
        only b g = elim (divided_or_low k (and_left (all_to c (λ i. is_divided (pure k i))) (only_sum && sum_stays) h) b) [ inl d ↦ inl d | inr small ↦ low b g small ]

        stays : (m : List ℕ) → Contains (sum_of family) m → (row p).degree < weight m → IsDivided p (monomial_in c m) → ⊥
        stays m among g d =
            elim (or_cases (is_light m) (list_all (λ l. not (divides c (monomial_in c l.monomial) (monomial_in c m))) (row p).leads)
            (passes (λ m. is_light m || list_all (λ l. not (divides c (monomial_in c l.monomial) (monomial_in c m))) (row p).leads) (sum_of family) m (and_right only_sum sum_stays rest) among)) [
              | inl light ↦ heavy m g light
              | inr none ↦ not_divided (monomial_in c m) none d
            ]

-- the leads of a part in two variables divide the tenth powers, of one in three the seventh
abbrev leaves_its_modulus : Choice → Bool
leaves_its_modulus ch = leaves ch.part ch.family (cond (leb (length (row ch.part).weights) 2) 10 7)

choices_leave : (base : Part) → list_all leaves_its_modulus (choices base) ≡ true
unfolding row choices
choices_leave parts.D4 = refl
choices_leave parts.D = refl
choices_leave parts.J = refl
choices_leave parts.X9 = refl
choices_leave parts.X = refl
choices_leave parts.Y = refl
choices_leave parts.Z = refl
choices_leave parts.W = refl
choices_leave parts.P8 = refl
choices_leave parts.Q = refl
choices_leave parts.S = refl
choices_leave parts.U = refl
choices_leave parts.T = refl
choices_leave parts.E6 = refl
choices_leave parts.E7 = refl
choices_leave parts.E8 = refl
choices_leave parts.J10 = refl
choices_leave parts.E12 = refl
choices_leave parts.E13 = refl
choices_leave parts.E14 = refl
choices_leave parts.Z11 = refl
choices_leave parts.Z12 = refl
choices_leave parts.Z13 = refl
choices_leave parts.W12 = refl
choices_leave parts.W13 = refl
choices_leave parts.Q10 = refl
choices_leave parts.Q11 = refl
choices_leave parts.Q12 = refl
choices_leave parts.S11 = refl
choices_leave parts.S12 = refl
choices_leave parts.U12 = refl
choices_leave parts.JT = refl

pub choices_leave_modulus : ChoicesLeaveModulus
choices_leave_modulus base ch among =
    leaves_modulus ch.part ch.family (cond (leb (length (row ch.part).weights) 2) 10 7) (passes leaves_its_modulus (choices base) ch (choices_leave base) among)

-- ---- the powers of the second variable

module _ (p : Part) (size : length (row p).weights ≡ 2) where
  abbrev leaves_powers : Bool
  leaves_powers =
      is_divided p (monomial_in (c p) (3 ∷ 0 ∷ [])) && (is_divided p (monomial_in (c p) (1 ∷ 3 ∷ []))
      && (box (c p) 3 (λ e. is_divided p (monomial_in (c p) e) || (leb (weight p e) (row p).degree || eqb (get_or e 0 0) 0)) && list_all (λ l. leb 1 (get_or l.monomial 0 0)) (row p).leads))

  -- a monomial of degree i in the first variable and k in the second divides those that have at least these
  two_at_most : (i k : ℕ) (m : ExpList (c p)) → i ≤ get_or m.entries 0 0 → k ≤ get_or m.entries 1 0 → (j : ℕ) → j < c p
      → get_or (monomial_in (c p) (i ∷ k ∷ [])).entries j 0 ≤ get_or m.entries j 0
  two_at_most i k m f g j h = subst (λ z. z ≤ get_or m.entries j 0) (sym ((exps_are (c p)).at_make (λ j. get_or (i ∷ k ∷ []) j 0) j h)) (at j (let s = size in omega arith))
    where
      at : (j : ℕ) → j < 2 → get_or (i ∷ k ∷ []) j 0 ≤ get_or m.entries j 0
      at zero h = f
      at (suc zero) h = g
      at (suc (suc j)) h = absurd (omega arith)

  module _ (h : leaves_powers ≡ true) where
    abbrev cube : Bool
    cube = is_divided p (monomial_in (c p) (3 ∷ 0 ∷ []))

    abbrev mixed : Bool
    mixed = is_divided p (monomial_in (c p) (1 ∷ 3 ∷ []))

    abbrev is_covered : List ℕ → Bool
    is_covered e = is_divided p (monomial_in (c p) e) || (leb (weight p e) (row p).degree || eqb (get_or e 0 0) 0)

    abbrev covered : Bool
    covered = box (c p) 3 is_covered

    abbrev has_first : Bool
    has_first = list_all (λ l. leb 1 (get_or l.monomial 0 0)) (row p).leads

    tested : (mixed && (covered && has_first)) ≡ true
    tested = and_right cube (mixed && (covered && has_first)) h

    boxed : (covered && has_first) ≡ true
    boxed = and_right mixed (covered && has_first) tested

    small : (m : ExpList (c p)) → (row p).degree < weight p m.entries → get_or m.entries 0 0 < 3 → get_or m.entries 1 0 < 3 → IsDivided p m ⊎ (get_or m.entries 0 0 ≡ 0)
    small m g f k =
        elim (or_cases (is_divided p (monomial_in (c p) m.entries)) (leb (weight p m.entries) (row p).degree || eqb (get_or m.entries 0 0) 0)
        (box_at (c p) 3 is_covered (and_left covered has_first boxed) m.entries m.long below)) [
          | inl d ↦ inl (divided_by p m (ap (is_divided p) (sym (own_entries p m)) ∙ d))
          | inr o ↦ elim (or_cases (leb (weight p m.entries) (row p).degree) (eqb (get_or m.entries 0 0) 0) o) [
            | inl light ↦ (let q = leb-true (weight p m.entries) (row p).degree light in absurd (omega arith))
            | inr none ↦ inr (eqb-true (get_or m.entries 0 0) 0 none)
          ]
        ]
      where
        at : (i : ℕ) → i < 2 → get_or m.entries i 0 < 3
        at zero h = f
        at (suc zero) h = k
        at (suc (suc i)) h = absurd (omega arith)

        below : (i : ℕ) → i < c p → get_or m.entries i 0 < 3
        below i h = at i (let s = size in omega arith)

    leaves_only_powers : LeavesPowers p
    leaves_only_powers = record {
      only = λ m g. elim (low_or_high (get_or m.entries 0 0) 1) [
        | inl none ↦ inr (omega arith)
        | inr some ↦ elim (low_or_high (get_or m.entries 0 0) 3) [
          | inr high ↦ inl (multiple_divided p (monomial_in (c p) (3 ∷ 0 ∷ [])) m (divided_by p (monomial_in (c p) (3 ∷ 0 ∷ [])) (and_left cube (mixed && (covered && has_first)) h)) (two_at_most 3 0 m high (omega arith)))
          | inl low ↦ elim (low_or_high (get_or m.entries 1 0) 3) [
            | inr high ↦ inl (multiple_divided p (monomial_in (c p) (1 ∷ 3 ∷ [])) m (divided_by p (monomial_in (c p) (1 ∷ 3 ∷ [])) (and_left mixed (covered && has_first) tested)) (two_at_most 1 3 m some high))
            | inl less ↦ small m g low less
          ]
        ]
      ];
      stays = λ m none d.
          let two : 0 < c p = (let s = size in omega arith) in
          let x = leb-true 1 (get_or d.lead.monomial 0 0) (passes (λ l. leb 1 (get_or l.monomial 0 0)) (row p).leads d.lead (and_right covered has_first boxed) d.among) in
          let y = leb-true (get_or (monomial_in (c p) d.lead.monomial).entries 0 0) (get_or m.entries 0 0)
          (ExpLaws.all_to_at (c p) (λ i. leb (get_or (monomial_in (c p) d.lead.monomial).entries i 0) (get_or m.entries i 0)) d.divided 0 two) in
          let z = (exps_are (c p)).at_make (λ i. get_or d.lead.monomial i 0) 0 two in
          absurd (omega arith);
    }

pub tail_leaves_powers : TailLeavesPowers
unfolding row
tail_leaves_powers = leaves_only_powers parts.JT refl refl
