-- The terms of a form of a family, as a jet: what it needs of them, and that it is a form.
use Rattle.std.proofs.Common.{◌≡◌, ◌≢◌, ℕ, suc, ◌+◌, ◌-◌, ◌<◌, ◌≤◌, ◌⊎◌, inl, inr, Bool, true, false, cond, ◌&&◌, ◌||◌, List, [], ◌∷◌, ◌++◌, length, map, sum, eqb-true, refl, sym, ap, ap₂, subst, ◌∙◌, arith}
use Rattle.std.specs.Prelude.{◌==◌, not}
use Rattle.std.specs.Str.{bytes_eq}
use Rattle.std.specs.List.{All, AllByRecursion, list_all, zip}
use Rattle.std.specs.List.Sorted.{IsPermutation}
use Rattle.std.proofs.lemmas.List.{map-append}
use Rattle.std.proofs.lemmas.List.Elements.{filter-append}
use Rattle.std.proofs.lemmas.List.Folds.{list_all-map}
use Rattle.std.proofs.lemmas.List.Sorted.{All-permutation, IsPermutation-sym}
use Rattle.std.proofs.lemmas.Slice.Eq.{bytes_eq-Decides}
use Rattle.ring_theory.specs.Scalars.{ScalarLaws, Meaning}
use Rattle.mono_exp.specs.declared.exponent.Exp.{Exp}
use Rattle.mono_exp.specs.Exponents.{IsIn}
use Rattle.jet_poly.specs.Gathered.{nonzero}
use Rattle.jet_poly.proofs.Output.{from-all, to-all}
use Rattle.normal_forms.specs.declared.family.Family.{Family}
use Rattle.normal_forms.specs.declared.family.Family.TheVariants as families
use Rattle.normal_forms.specs.Monomials.{in_eight, is_one_of, numbers_below, is_residual, is_square, square_of, monomials_in, residual_terms, is_split}
use Rattle.normal_forms.specs.Families.{is_family, corank_of, sum_of}
use Rattle.normal_forms.specs.Coefficients.{form_terms}
use Rattle.normal_forms.specs.Forms.{IsFormOf}
use Rattle.normal_forms.specs.Distinct.{are_distinct, exponents_in}
use Rattle.normal_forms.proofs.Kept.{all-filter}
use Rattle.normal_forms.proofs.Members.{residual_all}
use Rattle.normal_forms.proofs.Padded.{in_eight-in, length-in_eight, square-in}
use Rattle.normal_forms.proofs.Residual.{in_residual}
use Rattle.normal_forms.proofs.Sums.{sum_long}
use Rattle.normal_forms.proofs.FormTerms.{zip-firsts, zip-seconds, all-append, all-numbers, length-map-numbers, exponents-zip, distinct-append, differs_at, Differs, squares_from, squares_distinct, entries, all-entries, square_at, square_long, square_is_square, square_not_residual, sum_distinct, and_true}

mapped : (Q : List ℕ → Type 0) (P : Exp → Type 0) (es : List (List ℕ)) → ((e : List ℕ) → Q e → P (in_eight e)) → AllByRecursion Q es → AllByRecursion P (map in_eight es)
mapped Q P [] f a = tt
mapped Q P (e ∷ es) f a = (f e a.0, mapped Q P es f a.1)

all_true : {X : Type 0} (p : X → Bool) (xs : List X) → AllByRecursion (λ x. p x ≡ true) xs → list_all p xs ≡ true
all_true p [] a = refl
all_true p (x ∷ xs) a = ap₂ (λ b c. b && c) a.0 (all_true p xs a.1)

weaker : {X : Type 0} (P Q : X → Type 0) (xs : List X) → ((x : X) → P x → Q x) → AllByRecursion P xs → AllByRecursion Q xs
weaker P Q [] f a = tt
weaker P Q (x ∷ xs) f a = (f x a.0, weaker P Q xs f a.1)

any_there : (a : Exp) (before after : List Exp) → is_one_of (before ++ a ∷ after) a ≡ true
any_there a [] after = ap (λ b. b || is_one_of after a) ((bytes_eq-Decides a.e a.e).1 refl)
any_there a (x ∷ before) after = step (bytes_eq a.e x.e) (any_there a before after)
  where
    step : (b : Bool) → is_one_of (before ++ a ∷ after) a ≡ true → (b || is_one_of (before ++ a ∷ after) a) ≡ true
    step true h = refl
    step false h = h

-- each monomial is one of the list that it stands in
all_there : (before after : List Exp) → AllByRecursion (λ a. is_one_of (before ++ after) a ≡ true) after
all_there before [] = tt
all_there before (a ∷ after) =
    (any_there a before after, subst (λ z. AllByRecursion (λ x. is_one_of z x ≡ true) after) (regroup before) (all_there (before ++ a ∷ []) after))
  where
    regroup : (xs : List Exp) → (xs ++ a ∷ []) ++ after ≡ xs ++ a ∷ after
    regroup [] = refl
    regroup (x ∷ xs) = ap (λ ys. x ∷ ys) (regroup xs)

module _ {E : Type 0} (family : Family) (coefs squares : List E) (full : length coefs ≡ length (sum_of family)) (few : corank_of family + length squares ≤ 8) where
  abbrev c : ℕ
  c = corank_of family

  abbrev k : ℕ
  k = length squares

  abbrev sums : List Exp
  sums = map in_eight (sum_of family)

  abbrev sum_part : List (Exp × E)
  sum_part = zip sums coefs

  abbrev square_part : List (Exp × E)
  square_part = zip (squares_from c k) squares

  length_sums : length sums ≡ length coefs
  length_sums = length_map (sum_of family) ∙ sym full
    where
      length_map : (es : List (List ℕ)) → length (map in_eight es) ≡ length es
      length_map [] = refl
      length_map (e ∷ es) = ap suc (length_map es)

  long_sums : AllByRecursion (λ e. length e ≡ c) (sum_of family)
  long_sums = go (sum_of family) (sum_long family)
    where
      go : (es : List (List ℕ)) → list_all (λ e. length e == c) es ≡ true → AllByRecursion (λ e. length e ≡ c) es
      go [] h = tt
      go (e ∷ es) h = let both = and_true (length e == c) (list_all (λ e. length e == c) es) h in (eqb-true (length e) c both.0, go es both.1)

  -- what holds of the monomials of the sum and of the squares
  monomials_all : (P : Exp → Type 0) → ((e : List ℕ) → length e ≡ c → P (in_eight e)) → ((i : ℕ) → i < k → P (square_of (c + i))) → AllByRecursion (λ t. P t.0) (form_terms family coefs squares)
  monomials_all P f g =
      all-append (λ t. P t.0) sum_part square_part (zip-firsts P sums coefs (mapped (λ e. length e ≡ c) P (sum_of family) f long_sums))
      (zip-firsts P (squares_from c k) squares (all-numbers P (λ i. square_of (c + i)) k g))

  pub terms_elems : (P : E → Type 0) → All P coefs → All P squares → All (λ t. P t.1) (form_terms family coefs squares)
  terms_elems P a b =
      to-all (λ t. P t.1) (form_terms family coefs squares)
      (all-append (λ t. P t.1) sum_part square_part (zip-seconds P sums coefs (from-all P coefs a)) (zip-seconds P (squares_from c k) squares (from-all P squares b)))

  pub terms_variables : (n : ℕ) → n ≡ corank_of family + length squares → All (λ t. IsIn n t.0.e) (form_terms family coefs squares)
  terms_variables n e =
      to-all (λ t. IsIn n t.0.e) (form_terms family coefs squares)
      (monomials_all (λ (a : Exp). IsIn n a.e) (λ x long. in_eight-in n x (omega arith)) (λ i l. square-in n (c + i) (omega arith)))

  pub terms_long : All (λ t. length t.0.e ≡ 8) (form_terms family coefs squares)
  terms_long =
      to-all (λ t. length t.0.e ≡ 8) (form_terms family coefs squares)
      (monomials_all (λ (a : Exp). length a.e ≡ 8) (λ e long. length-in_eight e) (λ i l. square_long (c + i) (omega arith)))

  exponents-append : (xs ys : List (Exp × E)) → exponents_in (xs ++ ys) ≡ exponents_in xs ++ exponents_in ys
  exponents-append xs ys = map-append (λ (t : Exp × E). t.0.e) xs ys

  pub terms_distinct : is_family family ≡ true → are_distinct (exponents_in (form_terms family coefs squares)) ≡ true
  terms_distinct named =
      ap are_distinct
      (exponents-append sum_part square_part
      ∙ ap₂ (λ xs ys. xs ++ ys) (exponents-zip sums coefs length_sums) (exponents-zip (squares_from c k) squares (length-map-numbers (λ i. square_of (c + i)) k)))
      ∙ distinct-append (entries sums) (entries (squares_from c k)) (sum_distinct family named) (squares_distinct c k few)
      (all-entries (λ x. AllByRecursion (Differs x) (entries (squares_from c k))) sums
      (mapped (λ e. length e ≡ c) (λ (a : Exp). AllByRecursion (Differs a.e) (entries (squares_from c k))) (sum_of family) apart long_sums))
    where
      apart : (e : List ℕ) → length e ≡ c → AllByRecursion (Differs (in_eight e).e) (entries (squares_from c k))
      apart e long =
          all-entries (Differs (in_eight e).e) (squares_from c k)
          (all-numbers (λ (a : Exp). Differs (in_eight e).e a.e) (λ i. square_of (c + i)) k
          (λ i l. differs_at (in_eight e).e (square_of (c + i)).e (c + i)
          (λ q. let none = in_eight-in c e (omega arith) (c + i) (omega arith) in let two = square_at (c + i) (omega arith) in let bad : ⊥ = omega arith in bad)))

  -- a term of the sum, or a square
  abbrev IsOne : Exp × E → Type 0
  IsOne t = ((is_one_of sums t.0 ≡ true) × (is_residual c t.0 ≡ true)) ⊎ ((is_square c t.0 ≡ true) × (is_residual c t.0 ≡ false))

  each_is_one : AllByRecursion IsOne (form_terms family coefs squares)
  each_is_one =
      all-append IsOne sum_part square_part
      (zip-firsts (λ (a : Exp). ((is_one_of sums a ≡ true) × (is_residual c a ≡ true)) ⊎ ((is_square c a ≡ true) × (is_residual c a ≡ false))) sums coefs
      (joined sums (all_there [] sums) (mapped (λ e. length e ≡ c) (λ a. is_residual c a ≡ true) (sum_of family) (λ e long. in_residual c (in_eight e) (in_eight-in c e (omega arith))) long_sums)))
      (zip-firsts (λ (a : Exp). ((is_one_of sums a ≡ true) × (is_residual c a ≡ true)) ⊎ ((is_square c a ≡ true) × (is_residual c a ≡ false))) (squares_from c k) squares
      (all-numbers (λ (a : Exp). ((is_one_of sums a ≡ true) × (is_residual c a ≡ true)) ⊎ ((is_square c a ≡ true) × (is_residual c a ≡ false))) (λ i. square_of (c + i)) k
      (λ i l. inr (square_is_square c i (omega arith), square_not_residual c i (omega arith)))))
    where
      joined : (xs : List Exp) → AllByRecursion (λ a. is_one_of sums a ≡ true) xs → AllByRecursion (λ a. is_residual c a ≡ true) xs
          → AllByRecursion (λ (a : Exp). ((is_one_of sums a ≡ true) × (is_residual c a ≡ true)) ⊎ ((is_square c a ≡ true) × (is_residual c a ≡ false))) xs
      joined [] a b = tt
      joined (x ∷ xs) a b = (inl (a.0, b.0), joined xs a.1 b.1)

  module _ {V : Type 0} (m : Meaning E V) (laws : ScalarLaws m.scalars) (terms : List (Exp × E)) (p : IsPermutation (nonzero m.scalars m.value (form_terms family coefs squares)) terms) where
    abbrev kept : List (Exp × E) → List (Exp × E)
    kept ts = nonzero m.scalars m.value ts

    all_one : AllByRecursion IsOne terms
    all_one =
        from-all IsOne terms (All-permutation IsOne (kept (form_terms family coefs squares)) terms p
        (to-all IsOne (kept (form_terms family coefs squares)) (all-filter IsOne (λ t. not (m.scalars.is_zero (m.value t.1))) (form_terms family coefs squares) each_is_one)))

    alone : list_all (λ a. is_residual c a || is_square c a) (monomials_in terms) ≡ true
    alone =
        list_all-map (λ a. is_residual c a || is_square c a) (λ t. t.0) terms
        ∙ all_true (λ t. is_residual c t.0 || is_square c t.0) terms (weaker IsOne (λ t. (is_residual c t.0 || is_square c t.0) ≡ true) terms passes all_one)
      where
        passes : (t : Exp × E) → IsOne t → (is_residual c t.0 || is_square c t.0) ≡ true
        passes t (inl h) = ap (λ b. b || is_square c t.0) h.1
        passes t (inr h) = ap₂ (λ a b. a || b) h.1 h.0

    sum_alone : list_all (is_one_of sums) (monomials_in (residual_terms c terms)) ≡ true
    sum_alone =
        residual_all (is_one_of sums) c terms
        ∙ all_true (λ t. not (is_residual c t.0) || is_one_of sums t.0) terms (weaker IsOne (λ t. (not (is_residual c t.0) || is_one_of sums t.0) ≡ true) terms passes all_one)
      where
        last_true : (b : Bool) → (b || true) ≡ true
        last_true true = refl
        last_true false = refl

        passes : (t : Exp × E) → IsOne t → (not (is_residual c t.0) || is_one_of sums t.0) ≡ true
        passes t (inl h) = ap (λ b. not (is_residual c t.0) || b) h.0 ∙ last_true (not (is_residual c t.0))
        passes t (inr h) = ap (λ b. not b || is_one_of sums t.0) h.1

    -- the monomial of each term that is kept stands in the jet
    there : AllByRecursion (λ t. is_one_of (monomials_in terms) t.0 ≡ true) (kept (form_terms family coefs squares))
    there =
        from-all (λ t. is_one_of (monomials_in terms) t.0 ≡ true) (kept (form_terms family coefs squares))
        (All-permutation (λ t. is_one_of (monomials_in terms) t.0 ≡ true) terms (kept (form_terms family coefs squares)) (IsPermutation-sym (kept (form_terms family coefs squares)) terms p)
        (to-all (λ t. is_one_of (monomials_in terms) t.0 ≡ true) terms (itself terms (all_there [] (monomials_in terms)))))
      where
        itself : (ts : List (Exp × E)) → AllByRecursion (λ a. is_one_of (monomials_in terms) a ≡ true) (monomials_in ts) → AllByRecursion (λ t. is_one_of (monomials_in terms) t.0 ≡ true) ts
        itself [] a = tt
        itself (t ∷ ts) a = (a.0, itself ts a.1)

    all_kept : (ts : List (Exp × E)) → AllByRecursion (λ t. m.value t.1 ≢ m.scalars.ops.zero) ts → kept ts ≡ ts
    all_kept [] a = refl
    all_kept (t ∷ ts) a = step (m.scalars.is_zero (m.value t.1)) refl (all_kept ts a.1)
      where
        step : (b : Bool) → m.scalars.is_zero (m.value t.1) ≡ b → kept ts ≡ ts → cond (not b) (t ∷ kept ts) (kept ts) ≡ t ∷ ts
        step true e rest = absurd (a.0 ((laws.zero_test (m.value t.1)).0 e))
        step false e rest = ap (λ zs. t ∷ zs) rest

    second_part : {X : Type 0} (P : X → Type 0) (xs ys : List X) → AllByRecursion P (xs ++ ys) → AllByRecursion P ys
    second_part P [] ys a = a
    second_part P (x ∷ xs) ys a = second_part P xs ys a.1

    keys_all : (P : Exp → Type 0) (ks : List Exp) (vs : List E) → length ks ≡ length vs → AllByRecursion (λ t. P t.0) (zip ks vs) → AllByRecursion P ks
    keys_all P [] vs l a = tt
    keys_all P (x ∷ ks) [] l a = absurd (omega arith)
    keys_all P (x ∷ ks) (v ∷ vs) l a = (a.0, keys_all P ks vs (omega arith) a.1)

    squares_there : All (λ x. m.value x ≢ m.scalars.ops.zero) squares → AllByRecursion (λ a. is_one_of (monomials_in terms) a ≡ true) (squares_from c k)
    squares_there nonzero_squares =
        keys_all (λ a. is_one_of (monomials_in terms) a ≡ true) (squares_from c k) squares (length-map-numbers (λ i. square_of (c + i)) k)
        (subst (AllByRecursion (λ t. is_one_of (monomials_in terms) t.0 ≡ true)) (all_kept square_part (zip-seconds (λ x. m.value x ≢ m.scalars.ops.zero) (squares_from c k) squares (from-all (λ x. m.value x ≢ m.scalars.ops.zero) squares nonzero_squares)))
        (second_part (λ t. is_one_of (monomials_in terms) t.0 ≡ true) (kept sum_part) (kept square_part)
        (subst (AllByRecursion (λ t. is_one_of (monomials_in terms) t.0 ≡ true)) (filter-append (λ t. not (m.scalars.is_zero (m.value t.1))) sum_part square_part) there)))

    -- where no square is 0, the jet is a form of the family
    pub is_form : (n : ℕ) → n ≡ corank_of family + length squares → All (λ x. m.value x ≢ m.scalars.ops.zero) squares → IsFormOf family n (corank_of family) terms
    unfolding is_split
    is_form n e nonzero_squares = record {
      corank = refl;
      split = ap₂ (λ a b. a && b) alone (list_all-map (λ i. is_one_of (monomials_in terms) (square_of i)) (λ i. c + i) (numbers_below (n - c)) ∙ ap (λ j. list_all (λ i. is_one_of (monomials_in terms) (square_of (c + i))) (numbers_below j)) (let z : n - c ≡ k = omega arith in z)
          ∙ sym (list_all-map (is_one_of (monomials_in terms)) (λ i. square_of (c + i)) (numbers_below k))
          ∙ all_true (is_one_of (monomials_in terms)) (squares_from c k) (squares_there nonzero_squares));
      monomials = sum_alone;
    }

-- x^256 is of no degree below 256
pub not_255 : {E : Type 0} (family : Family) (coefs squares : List E) (order : ℕ) → order < 256 → length coefs ≡ length (sum_of family) → All (λ t. sum t.0.e ≤ order) (form_terms family coefs squares) → family ≡ families.A 255 → ⊥
not_255 {E} family coefs squares order small full degrees e =
    at_255 coefs (full ∙ ap (λ (f : Family). length (sum_of f)) e) (subst (λ (f : Family). All (λ t. sum t.0.e ≤ order) (form_terms f coefs squares)) e degrees)
  where
    at_255 : (coefs : List E) → length coefs ≡ 1 → All (λ t. sum t.0.e ≤ order) (form_terms (families.A 255) coefs squares) → ⊥
    at_255 [] l a = let bad : ⊥ = omega arith in bad
    at_255 (x ∷ xs) l a = let high : 256 ≤ order = a 0 (in_eight (256 ∷ []), x) (omega arith) in let bad : ⊥ = omega arith in bad
