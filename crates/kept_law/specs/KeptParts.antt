-- What the moves of an order keep of all that the plan has reached: the coefficients of the squares, the split form, the letters of the part, and that nothing residual
-- stands below its degree. The square variables are those from c on, the residual ones the first c.
use Rattle.std.specs.Prelude.{◌≡◌, ℕ, suc, ◌<◌, ◌≤◌, ◌⊎◌, true, length, List, map, get_or, Contains}
use Rattle.std.specs.List.{AllByRecursion}
use Rattle.ring_theory.specs.Scalars.{Scalars}
use Rattle.poly_law.specs.Exps.{degree}
use Rattle.poly_law.specs.ExpList.{ExpList, exps}
use Rattle.poly_law.specs.Poly.{place}
use Rattle.poly_law.specs.Polynomials.{Polynomial, SameToIn, StartsAtIn, HaveNoConstant, coefficient_in}
use Rattle.mono_exp.specs.Exponents.{weighted_degree_of}
use Rattle.jet_law.specs.Canonical.{jet, monomial_in}
use Rattle.normal_forms.specs.declared.family.Family.{Family}
use Rattle.normal_forms.specs.Families.{sum_of}
use Rattle.kill_law.specs.declared.lead.Lead.{Lead}
use Rattle.kill_law.specs.declared.part.Part.{Part}
use Rattle.kill_law.specs.declared.part.Part.TheVariants as parts
use Rattle.kill_law.specs.Table.{row}
use Rattle.kill_law.specs.Kill.{letters_of, divides}
use Rattle.kill_law.specs.Leads.{HasInvertibleDivisors, form_of}
use Rattle.kill_law.specs.Taken.{kill_move}
use Rattle.coord_change.specs.Moves.{Move, put, variable_of}
use Rattle.coord_change.specs.Carries.{carry, carry_all}
use Rattle.move_law.specs.Moves.{residual}
use Rattle.move_law.specs.Split.{squares_in}
use Rattle.move_law.specs.Finish.{Choice, choices, begin_finish, graded_kill}
use Rattle.split_lemma.specs.SplitForms.{IsSplitUpTo, split_off}

module _ {V : Type 0} (n : ℕ) (s : Scalars V) (c : ℕ) where
  -- the coefficient of f at a monomial without square variables
  abbrev pub residual_at : Polynomial n V → ExpList c → V
  residual_at f b = coefficient_in n s.ops f (place (exps n) (exps c) s.ops b)

  -- the residual part of f up to degree k has no term of degree below that of the part
  abbrev pub StartsAtPart : ℕ → Part → Polynomial n V → Type 0
  StartsAtPart k p f = StartsAtIn c s.ops (row p).degree (residual n s c k f)

  -- in the degree of the part, the residual terms of f are its form with the letters of f
  abbrev pub HasForm : Part → Polynomial n V → Type 0
  HasForm p f = (b : ExpList c) → degree (exps c) b ≡ (row p).degree
      → residual_at f b ≡ coefficient_in c s.ops (form_of s (letters_of n s p f) c p) b

  -- the split move of degree o + 1 keeps the letters, and that nothing residual stands below the degree of the part
  pub record SplitKeepsPart (o : ℕ) (p : Part) (f : Polynomial n V) : Type 0 where
    pub letters : letters_of n s p (split_off n s c (suc o) f) ≡ letters_of n s p f
    pub low : StartsAtPart (suc o) p (split_off n s c (suc o) f)

  -- f carried by its kill move of degree d of a part, up to degree d
  abbrev pub kill_off : ℕ → Part → Polynomial n V → Polynomial n V
  kill_off d p f = carry n s d (kill_move n s (letters_of n s p f) p d f) f

  -- the kill move of degree o + 1 keeps all coefficients of degree at most o, the coefficients of the squares, the split form, the letters, and that nothing residual
  -- stands below the degree of the part
  pub record KillKeepsPart (o : ℕ) (p : Part) (f : Polynomial n V) : Type 0 where
    pub below : SameToIn n s.ops o (kill_off (suc o) p f) f
    pub squares : squares_in n s c (kill_off (suc o) p f) ≡ squares_in n s c f
    pub split : IsSplitUpTo n s c (suc o) (kill_off (suc o) p f)
    pub letters : letters_of n s p (kill_off (suc o) p f) ≡ letters_of n s p f
    pub low : StartsAtPart (suc o) p (kill_off (suc o) p f)

  -- the residual terms of f have at least the weighted degree of the part, and those of this degree are its form with the letters of f
  pub record HasPrincipalPart (p : Part) (f : Polynomial n V) : Type 0 where
    pub above : (b : ExpList c) → weighted_degree_of (row p).weights b.entries < (row p).degree → residual_at f b ≡ s.ops.zero
    pub form : (b : ExpList c) → weighted_degree_of (row p).weights b.entries ≡ (row p).degree
        → residual_at f b ≡ coefficient_in c s.ops (form_of s (letters_of n s p f) c p) b

  -- f carried by its kill move of a grade of a part, up to degree k
  abbrev pub kill_grade : ℕ → ℕ → Part → Polynomial n V → Polynomial n V
  kill_grade k grade p f = carry n s k (kill_move n s (letters_of n s p f) p grade f) f

  -- the kill move of a grade keeps the split form and the coefficients of the squares up to degree k, and of the residual terms up to degree k those of lower grade; and it
  -- leaves none of that grade that a lead of the part divides
  pub record GradeIsKilled (k grade : ℕ) (p : Part) (f : Polynomial n V) : Type 0 where
    pub split : IsSplitUpTo n s c k (kill_grade k grade p f)
    pub squares : squares_in n s c (kill_grade k grade p f) ≡ squares_in n s c f
    pub below : (b : ExpList c) → degree (exps c) b ≤ k → weighted_degree_of (row p).weights b.entries < grade
        → residual_at (kill_grade k grade p f) b ≡ residual_at f b
    pub reduced : (l : Lead) → Contains (row p).leads l → (b : ExpList c) → degree (exps c) b ≤ k → weighted_degree_of (row p).weights b.entries ≡ grade
        → divides c (monomial_in c l.monomial) b ≡ true → residual_at (kill_grade k grade p f) b ≡ s.ops.zero

  -- no term of f has a degree above k
  abbrev pub EndsAt : ℕ → Polynomial n V → Type 0
  EndsAt k f = (m : ExpList n) → k < degree (exps n) m → coefficient_in n s.ops f m ≡ s.ops.zero

  -- what the kills of all grades of a part, one after the other, leave of f up to degree k
  abbrev pub graded_off : ℕ → Part → Polynomial n V → Polynomial n V
  graded_off k p f = (graded_kill n s k p (begin_finish n s k f)).form

  -- they keep the split form, the coefficients of the squares, the principal part and its letters; and they leave no residual term of greater weighted degree than the
  -- form of the part that a lead divides
  pub record GradesAreGone (k : ℕ) (p : Part) (f : Polynomial n V) : Type 0 where
    pub split : IsSplitUpTo n s c k (graded_off k p f)
    pub squares : squares_in n s c (graded_off k p f) ≡ squares_in n s c f
    pub principal : HasPrincipalPart p (graded_off k p f)
    pub letters : letters_of n s p (graded_off k p f) ≡ letters_of n s p f
    pub reduced : (l : Lead) → Contains (row p).leads l → (b : ExpList c) → (row p).degree < weighted_degree_of (row p).weights b.entries
        → divides c (monomial_in c l.monomial) b ≡ true → residual_at (graded_off k p f) b ≡ s.ops.zero

-- the moves put nothing constant for a variable
abbrev pub HaveNoConstants : {V : Type 0} → (n : ℕ) → Scalars V → List (Move n V) → Type 0
HaveNoConstants n s moves = AllByRecursion (λ m. HaveNoConstant n s.ops n (put n s m)) moves

-- what the leads of the part are divided by is invertible, for these letters
abbrev pub LeadsAreInvertible : {V : Type 0} → Scalars V → List V → Part → Type 0
LeadsAreInvertible s letters p = (l : Lead) → Contains (row p).leads l → HasInvertibleDivisors s letters l

-- a lead of the part divides the monomial b in the part's variables
pub record IsDivided (p : Part) (b : ExpList (length (row p).weights)) : Type 0 where
  pub lead : Lead
  pub among : Contains (row p).leads lead
  pub divided : divides (length (row p).weights) (monomial_in (length (row p).weights) lead.monomial) b ≡ true

-- of greater weighted degree than the form of the part: each monomial that no lead divides is one of the family's sum, its modulus monomial, and no lead divides that
pub record LeavesModulus (p : Part) (family : Family) : Type 0 where
  pub only : (b : ExpList (length (row p).weights)) → (row p).degree < weighted_degree_of (row p).weights b.entries
      → IsDivided p b ⊎ Contains (map (monomial_in (length (row p).weights)) (sum_of family)) b
  pub stays : (m : List ℕ) → Contains (sum_of family) m → (row p).degree < weighted_degree_of (row p).weights m → IsDivided p (monomial_in (length (row p).weights) m) → ⊥

-- of greater weighted degree than the form of the part: each monomial with the first variable is divided by a lead, and no power of the second is
pub record LeavesPowers (p : Part) : Type 0 where
  pub only : (b : ExpList (length (row p).weights)) → (row p).degree < weighted_degree_of (row p).weights b.entries → IsDivided p b ⊎ (get_or b.entries 0 0 ≡ 0)
  pub stays : (b : ExpList (length (row p).weights)) → get_or b.entries 0 0 ≡ 0 → IsDivided p b → ⊥

-- of each graded part that a finish chooses no lead leaves a monomial of greater weight but the modulus monomial of its family
abbrev pub ChoicesLeaveModulus : Type 0
ChoicesLeaveModulus = (base : Part) (ch : Choice) → Contains (choices base) ch → LeavesModulus ch.part ch.family

-- of the part of T(2,3,r) they leave the powers of the second variable
abbrev pub TailLeavesPowers : Type 0
TailLeavesPowers = LeavesPowers parts.JT

-- all weights of the part are 1: its form is homogeneous
abbrev pub IsBasePart : Part → Type 0
IsBasePart p = AllByRecursion (λ w. w ≡ 1) (row p).weights

module _ {V : Type 0} (s : Scalars V) where
  -- the letters of a part are those of every polynomial that agrees up to the degree of the part
  abbrev pub LettersAgree : Type 0
  LettersAgree = (n o : ℕ) (p : Part) → (row p).degree ≤ o → (f g : Polynomial n V) → SameToIn n s.ops o f g → letters_of n s p f ≡ letters_of n s p g

  -- of two polynomials that agree up to degree o, at least that of the part: where one has no residual term below the degree of the part, the other has none
  abbrev pub LowAgrees : Type 0
  LowAgrees = (n c o k : ℕ) (p : Part) → c ≤ n → (row p).degree ≤ o → o ≤ k → (f g : Polynomial n V) → SameToIn n s.ops o f g
      → StartsAtPart n s c o p g → StartsAtPart n s c k p f

  -- the squares of a carried jet are those of the jet of the next order
  abbrev pub SquaresStay : Type 0
  SquaresStay = (n c o : ℕ) → 2 ≤ o → (moves : List (Move n V)) → HaveNoConstants n s moves → (g : Polynomial n V)
      → squares_in n s c (carry_all n s (suc o) moves (jet n s (suc o) g)) ≡ squares_in n s c (carry_all n s o moves (jet n s o g))

  -- and it is split up to degree o where that is
  abbrev pub SplitStays : Type 0
  SplitStays = (n c o : ℕ) (moves : List (Move n V)) → HaveNoConstants n s moves → (g : Polynomial n V)
      → IsSplitUpTo n s c o (carry_all n s o moves (jet n s o g)) → IsSplitUpTo n s c o (carry_all n s (suc o) moves (jet n s (suc o) g))

  -- the letters of the part of a carried jet are those of the jet of the next order
  abbrev pub LettersStay : Type 0
  LettersStay = (n o : ℕ) (p : Part) → (row p).degree ≤ o → (moves : List (Move n V)) → HaveNoConstants n s moves → (g : Polynomial n V)
      → letters_of n s p (carry_all n s (suc o) moves (jet n s (suc o) g)) ≡ letters_of n s p (carry_all n s o moves (jet n s o g))

  -- where nothing residual stands below the degree of the part in a carried jet, nothing does in the jet of the next order
  abbrev pub LowStays : Type 0
  LowStays = (n c o : ℕ) (p : Part) → c ≤ n → (row p).degree ≤ o → (moves : List (Move n V)) → HaveNoConstants n s moves → (g : Polynomial n V)
      → StartsAtPart n s c o p (carry_all n s o moves (jet n s o g)) → StartsAtPart n s c (suc o) p (carry_all n s (suc o) moves (jet n s (suc o) g))

  -- carried jets of a germ without terms of degree below 2 have none
  abbrev pub JetsLow : Type 0
  JetsLow = (n k : ℕ) → 1 ≤ k → (moves : List (Move n V)) → HaveNoConstants n s moves → (g : Polynomial n V) → StartsAtIn n s.ops 2 g
      → StartsAtIn n s.ops 2 (carry_all n s k moves (jet n s k g))

  -- what the split move of a degree above that of the part keeps, where f has no terms of degree below 2, is split up to degree 2, and nothing residual stands below the degree of the part
  abbrev pub AllSplitsKeep : Type 0
  AllSplitsKeep = (n c o : ℕ) (p : Part) → c ≤ n → (row p).degree ≤ o → (f : Polynomial n V) → StartsAtIn n s.ops 2 f → IsSplitUpTo n s c 2 f
      → StartsAtPart n s c (suc o) p f
      → SplitKeepsPart n s c o p f

  -- the kill move of a grade puts for each variable past the part's own this variable
  abbrev pub KillsLeaveOthers : Type 0
  KillsLeaveOthers = (n grade : ℕ) (letters : List V) (p : Part) → length (row p).weights ≤ n → (f : Polynomial n V)
      → (i : ℕ) → length (row p).weights ≤ i → i < n → put n s (kill_move n s letters p grade f) i ≡ variable_of n s i

  -- what the kill move of a base part, of a degree above that of the part, keeps, where f is split up to that degree and nothing residual stands below the degree of the part
  abbrev pub AllKillsKeep : Type 0
  AllKillsKeep = (n c o : ℕ) (p : Part) → c ≤ n → length (row p).weights ≡ c → IsBasePart p → (row p).degree ≤ o → (f : Polynomial n V)
      → IsSplitUpTo n s c (suc o) f
      → StartsAtPart n s c (suc o) p f → KillKeepsPart n s c o p f

  -- and in its degree no monomial that a lead of the part divides is left, where the residual terms of the part's degree are its form, and what the leads are divided by
  -- is invertible
  abbrev pub KillsLeaveNoLead : Type 0
  KillsLeaveNoLead = (n c o : ℕ) (p : Part) → c ≤ n → length (row p).weights ≡ c → IsBasePart p → (row p).degree ≤ o → (f : Polynomial n V)
      → IsSplitUpTo n s c (suc o) f
      → StartsAtPart n s c (suc o) p f → HasForm n s c p f
      → LeadsAreInvertible s (letters_of n s p f) p
      → (l : Lead) → Contains (row p).leads l → (m : ExpList n) → degree (exps n) m ≡ suc o → divides n (monomial_in n l.monomial) m ≡ true
      → coefficient_in n s.ops (kill_off n s c (suc o) p f) m ≡ s.ops.zero

  -- so for each grade above the degree of the part, where f is split up to degree k, has the principal part, and what the leads are divided by is invertible
  abbrev pub GradesAreKilled : Type 0
  GradesAreKilled = (n c k grade : ℕ) (p : Part) → c ≤ n → length (row p).weights ≡ c → 2 ≤ k → (row p).degree < grade → (f : Polynomial n V)
      → IsSplitUpTo n s c k f → HasPrincipalPart n s c p f
      → LeadsAreInvertible s (letters_of n s p f) p → GradeIsKilled n s c k grade p f

  -- so for all grades one after the other, where f has no term of degree above k, which is at most 16
  abbrev pub AllGradesAreGone : Type 0
  AllGradesAreGone = (n c k : ℕ) (p : Part) → c ≤ n → length (row p).weights ≡ c → 2 ≤ k → k ≤ 16 → (f : Polynomial n V)
      → EndsAt n s c k f → IsSplitUpTo n s c k f → HasPrincipalPart n s c p f
      → LeadsAreInvertible s (letters_of n s p f) p → GradesAreGone n s c k p f

  -- and where the part is one that a finish chooses, each residual term of greater weighted degree than its form is one of the family's sum, the modulus term
  abbrev pub OnlyModulusIsLeft : Type 0
  OnlyModulusIsLeft = (n k : ℕ) (base : Part) (ch : Choice) → Contains (choices base) ch → let p = ch.part in let c = length (row p).weights in
      c ≤ n → 2 ≤ k → k ≤ 16 → (f : Polynomial n V) → EndsAt n s c k f → IsSplitUpTo n s c k f → HasPrincipalPart n s c p f → LeadsAreInvertible s (letters_of n s p f) p
      → (b : ExpList c) → (row p).degree < weighted_degree_of (row p).weights b.entries
      → (residual_at n s c (graded_off n s c k p f) b ≡ s.ops.zero) ⊎ Contains (map (monomial_in c) (sum_of ch.family)) b
