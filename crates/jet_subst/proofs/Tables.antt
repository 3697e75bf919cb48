-- Greatest exponents, and tables of powers.
use Rattle.std.proofs.Common.{◌≡◌, ℕ, zero, suc, ◌+◌, ◌<◌, ◌≤◌, max, ◌⊎◌, inl, inr, List, [], ◌∷◌, ◌++◌, map, length, get_or, All, Contains, Result, Ok, Err, OnOk, IfOk, ap, ap₂, sym, ◌∙◌, refl, subst, length-append, arith}
use Rattle.ring_theory.specs.Ring.{IsCommRing}
use Rattle.ring_theory.specs.Scalars.{Meaning}
use Rattle.poly_law.specs.Sums.{power}
use Rattle.poly_law.specs.ExpList.{ExpList, exps}
use Rattle.poly_law.specs.Poly.{monomial_of}
use Rattle.poly_law.specs.Polynomials.{Polynomial, poly_in, times_in}
use Rattle.jet_law.specs.Heights.{IsHigh, product_heights}
use Rattle.jet_subst.specs.Substitutions.{ArePowersOfHigh}
use Rattle.poly_law.proofs.ExpLists.{exps_are}
use Rattle.mono_exp.specs.declared.exponent.Exp.{Exp}
use Rattle.jet_law.specs.Terms.{exp_of, poly_of}
use Rattle.jet_law.proofs.TermLemmas.{at-exp_of}
use Rattle.jet_poly.specs.JetTerms.{JetTerms}
use Rattle.jet_subst.specs.Powers.{IsTruncation, IsTruncatedJet, ArePowersHigh}
use Rattle.jet_subst.specs.Parts.{variables_of, jet_at, part_of, ArePowers, IsTable, HasPowers, IsTermHigh}
use Rattle.jet_subst.proofs.PowerLemmas.{at-append, at-last, any_default, before_or_last}
use Rattle.jet_subst.proofs.Monomials

-- one element more
pub all_push : {X : Type 0} (P : X → Type 0) (xs : List X) (y : X) → All P xs → P y → All P (xs ++ y ∷ [])
all_push P xs y h p k d g = elim (before_or_last k (length xs) (let z = length-append xs (y ∷ []) in omega arith)) [
  | inl b ↦ subst P (sym (at-append xs y d k b)) (h k d b)
  | inr q ↦ subst P (sym (ap (λ i. get_or (xs ++ y ∷ []) i d) q ∙ at-last xs y d)) p
]

pub on_ok : {T X : Type 0} {P Q : Type 0} (r : Result T X) → (P → Q) → OnOk r P → OnOk r Q
on_ok (Ok x) f h = f h
on_ok (Err e) f h = h

pub if_ok : {T X : Type 0} {P Q : T → Type 0} (r : Result T X) → ((x : T) → P x → Q x) → IfOk r P → IfOk r Q
if_ok (Ok x) f h = f x h
if_ok (Err e) f h = h

-- the variables of the parts are those of the first
pub first_variables : {E : Type 0} (parts : List (JetTerms E)) (v : JetTerms E) → 0 < length parts → v ≡ get_or parts 0 v → v.n ≡ variables_of parts
first_variables [] v h e = absurd (omega arith)
first_variables (p ∷ ps) v h e = ap (λ u. u.n) e

-- an element at a place
element : {X : Type 0} (xs : List X) (k : ℕ) → k < length xs → (x : X) × (x ≡ get_or xs k x)
element [] k h = absurd (omega arith)
element (x ∷ xs) zero h = (x, refl)
element (x ∷ xs) (suc k) h = element xs k (omega arith)

pub at-map : {X Y : Type 0} (f : X → Y) (xs : List X) (k : ℕ) (x : X) → k < length xs → x ≡ get_or xs k x → (d : Y) → get_or (map f xs) k d ≡ f x
at-map f [] k x h e d = absurd (omega arith)
at-map f (y ∷ xs) zero x h e d = ap f (sym e)
at-map f (y ∷ xs) (suc k) x h e d = at-map f xs k x (omega arith) e d

pub length-mapped : {X Y : Type 0} (f : X → Y) (xs : List X) → length (map f xs) ≡ length xs
length-mapped f [] = refl
length-mapped f (x ∷ xs) = ap suc (length-mapped f xs)

module _ {E : Type 0} (i : ℕ) (terms : List (Exp × E)) where
  abbrev exponents : List ℕ
  exponents = map (λ t. get_or t.0.e i 0) terms

  pub greatest_more : (idx g : ℕ) (t : Exp × E) → idx < length terms → t ≡ get_or terms idx t
      → ((k : ℕ) (d : Exp × E) → k < idx → get_or (get_or terms k d).0.e i 0 ≤ g)
      → (k : ℕ) (d : Exp × E) → k < idx + 1 → get_or (get_or terms k d).0.e i 0 ≤ max g (get_or t.0.e i 0)
  greatest_more idx g t h e old k d below = elim (before_or_last k idx below) [
    | inl b ↦ let z = old k d b in omega arith
    | inr q ↦ let z : get_or (get_or terms k d).0.e i 0 ≡ get_or t.0.e i 0 = ap (λ (u : Exp × E). get_or u.0.e i 0) (ap (λ j. get_or terms j d) q ∙ any_default terms idx d t h ∙ sym e) in omega arith
  ]

  pub among_more : (idx g : ℕ) (t : Exp × E) → idx < length terms → t ≡ get_or terms idx t → (idx ≡ 0 → g ≡ 0) → (0 < idx → Contains exponents g) → Contains exponents (max g (get_or t.0.e i 0))
  among_more idx g t h e first old = elim (which idx g (get_or t.0.e i 0) first) [
    | inl q ↦ subst (Contains exponents) (sym q) (idx, subst (λ z. idx < z) (sym (length-mapped (λ t. get_or t.0.e i 0) terms)) h, at-map (λ t. get_or t.0.e i 0) terms idx t h e (get_or t.0.e i 0))
    | inr q ↦ subst (Contains exponents) (sym q.1) (old q.0)
  ]
    where
      which : (idx g e : ℕ) → (idx ≡ 0 → g ≡ 0) → (max g e ≡ e) ⊎ ((0 < idx) × (max g e ≡ g))
      which zero g e z = let z' = z refl in inl (omega arith)
      which (suc idx) g e z = larger g e
        where
          larger : (g e : ℕ) → (max g e ≡ e) ⊎ ((0 < suc idx) × (max g e ≡ g))
          larger g e = elim (order g e) [ inl h ↦ inl (omega arith) | inr h ↦ inr (omega arith, omega arith) ]
            where
              order : (g e : ℕ) → (g ≤ e) ⊎ (e ≤ g)
              order g e = grind arith

module _ {E V : Type 0} (m : Meaning E V) (n k : ℕ) (parts : List (JetTerms E)) where
  -- one row more
  pub table_more : (table : List (List (JetTerms E))) (row : List (JetTerms E)) (i : ℕ) → length table ≡ i → IsTable m n k parts table
      → ArePowers m n k (part_of n m.value parts i) row → IsTable m n k parts (table ++ row ∷ [])
  table_more table row i e t p j h =
      elim (before_or_last j (length table) (let z = length-append table (row ∷ []) in omega arith)) [
        | inl b ↦ subst (ArePowers m n k (part_of n m.value parts j)) (sym (at-append table row [] j b)) (t j b)
        | inr q ↦
            subst (ArePowers m n k (part_of n m.value parts j)) (sym (ap (λ z. get_or (table ++ row ∷ []) z []) q ∙ at-last table row []))
            (subst (λ z. ArePowers m n k (part_of n m.value parts z) row) (let z : i ≡ j = omega arith in z) p)
      ]

  pub powers_more : (terms : List (Exp × E)) (table : List (List (JetTerms E))) (row : List (JetTerms E)) (i most : ℕ) → length table ≡ i
      → ((j : ℕ) → j < i → All (λ t. get_or t.0.e j 0 < length (get_or table j [])) terms) → All (λ t. get_or t.0.e i 0 ≤ most) terms → length row ≡ most + 1
      → (j : ℕ) → j < i + 1 → All (λ t. get_or t.0.e j 0 < length (get_or (table ++ row ∷ []) j [])) terms
  powers_more terms table row i most e old new size j h = elim (before_or_last j i h) [
    | inl b ↦ λ a d g. subst (λ z. get_or (get_or terms a d).0.e j 0 < length z) (sym (at-append table row [] j (omega arith))) (old j b a d g)
    | inr q ↦ λ a d g.
        subst (λ z. get_or (get_or terms a d).0.e j 0 < length z) (sym (ap (λ z. get_or (table ++ row ∷ []) z []) (q ∙ sym e) ∙ at-last table row []))
        (subst (λ z. get_or (get_or terms a d).0.e z 0 < length row) (sym q) (let z = new a d g in omega arith))
  ]

  -- the powers of one part, up to the exponent of a term, are high
  pub term_high : IsCommRing m.scalars.ops → IsSet V → (terms : List (Exp × E)) (i most : ℕ) (part : JetTerms E) → i < length parts → part ≡ jet_at parts i → part.n ≡ n
      → Contains (map (λ t. get_or t.0.e i 0) terms) most → ArePowersHigh (exps part.n) m.scalars k (poly_of part.n m.value part.terms) most → IsTermHigh m n k parts terms
  term_high c s terms i most part h e en among high =
      let inside : among.0 < length terms = subst (λ z. among.0 < z) (length-mapped (λ t. get_or t.0.e i 0) terms) among.1 in
      let t : (x : Exp × E) × (x ≡ get_or terms among.0 x) = element terms among.0 inside in
      let exponent : most ≡ get_or t.0.0.e i 0 = sym among.2 ∙ at-map (λ t. get_or t.0.e i 0) terms among.0 t.0 inside t.1 most in
      record {
        term = t.0;
        among = (among.0, inside, sym t.1);
        high = Monomials.powers_of_part (exps (length parts)) (exps_are (length parts)) (exps n) (exps_are n) m.scalars c s k (part_of n m.value parts) i (exp_of (length parts) t.0.0) h
            (subst (λ z. ArePowersHigh (exps n) m.scalars k (part_of n m.value parts i) z) (exponent ∙ sym (at-exp_of (length parts) t.0.0 i h))
            (subst (λ (u : JetTerms E). ArePowersHigh (exps n) m.scalars k (poly_of n m.value u.terms) most) e
            (subst (λ z. ArePowersHigh (exps z) m.scalars k (poly_of z m.value part.terms) most) en high)));
      }

  -- powers of a part that was read are those of the part at its place
  pub powers_at : (i : ℕ) (part : JetTerms E) (row : List (JetTerms E)) → part ≡ jet_at parts i → part.n ≡ n → ArePowers m part.n k (poly_of part.n m.value part.terms) row → ArePowers m n k (part_of n m.value parts i) row
  powers_at i part row e en p =
      subst (λ (u : JetTerms E). ArePowers m n k (poly_of n m.value u.terms) row) e
      (subst (λ z. ArePowers m z k (poly_of z m.value part.terms) row) en p)

  -- ---- the product of powers, one variable more

  -- the power of part i that the monomial a asks for
  pub factor_at : (table : List (List (JetTerms E))) (a : Exp) (i : ℕ) (row slice : List (JetTerms E)) (e : ℕ) (v : JetTerms E) → IsTable m n k parts table → HasPowers table a → i < length table
      → row ≡ get_or table i row → slice ≡ row → e ≡ get_or a.e i 0 → v ≡ get_or slice e v
      → IsTruncatedJet m n k (power (poly_in n m.scalars.ops) (part_of n m.value parts i) (get_or a.e i 0)) v
  factor_at table a i row slice e v t p h er es ee ev =
      subst (IsTruncatedJet m n k (power (poly_in n m.scalars.ops) (part_of n m.value parts i) (get_or a.e i 0)))
      (sym (ev ∙ ap₂ (λ zs z. get_or zs z v) (es ∙ er ∙ any_default table i row [] h) ee ∙ any_default (get_or table i []) (get_or a.e i 0) v _ (p i h)))
      (t i h (get_or a.e i 0) (p i h))

  module _ (c : IsCommRing m.scalars.ops) (s : IsSet V) (a : Exp) (i : ℕ) (h : i < length parts) where
    abbrev count : ℕ
    count = length parts

    abbrev whole : ExpList count
    whole = exp_of count a

    abbrev front : ℕ → Polynomial n V
    front i = monomial_of (exps count) (exps n) m.scalars.ops (part_of n m.value parts) (Monomials.prefix (exps count) (exps_are count) i whole)

    of_factor : (factor : JetTerms E) → IsTruncatedJet m n k (power (poly_in n m.scalars.ops) (part_of n m.value parts i) (get_or a.e i 0)) factor
        → IsTruncation (exps n) m.scalars.ops k (power (poly_in n m.scalars.ops) (part_of n m.value parts i) ((exps count).at whole i)) (poly_of n m.value factor.terms)
    of_factor factor q = subst (λ z. IsTruncation (exps n) m.scalars.ops k (power (poly_in n m.scalars.ops) (part_of n m.value parts i) z) (poly_of n m.value factor.terms)) (sym (at-exp_of count a i h)) q.truncation

    pub monomial_more : (p factor next : JetTerms E) → IsTruncatedJet m n k (front i) p → IsTruncatedJet m n k (power (poly_in n m.scalars.ops) (part_of n m.value parts i) (get_or a.e i 0)) factor
        → IsTruncatedJet m p.n k (times_in p.n m.scalars.ops (poly_of p.n m.value p.terms) (poly_of p.n m.value factor.terms)) next → IsTruncatedJet m n k (front (i + 1)) next
    monomial_more p factor next tp tq product =
        let u : IsTruncatedJet m n k (times_in n m.scalars.ops (poly_of n m.value p.terms) (poly_of n m.value factor.terms)) next =
        subst (λ z. IsTruncatedJet m z k (times_in z m.scalars.ops (poly_of z m.value p.terms) (poly_of z m.value factor.terms)) next) tp.variables product in
        record {
          jet = u.jet;
          variables = u.variables;
          order = u.order;
          truncation = Monomials.more_variables (exps count) (exps_are count) (exps n) (exps_are n) m.scalars c s k (part_of n m.value parts) i whole (poly_of n m.value p.terms) (poly_of n m.value factor.terms) (poly_of n m.value next.terms)
              h tp.truncation (of_factor factor tq) u.truncation;
        }

    pub monomial_high : (p factor : JetTerms E) → IsTruncatedJet m n k (front i) p → IsTruncatedJet m n k (power (poly_in n m.scalars.ops) (part_of n m.value parts i) (get_or a.e i 0)) factor
        → IsHigh (product_heights (exps p.n) m.scalars k (poly_of p.n m.value p.terms) (poly_of p.n m.value factor.terms)) → ArePowersOfHigh (exps count) (exps n) m.scalars k (part_of n m.value parts) whole
    monomial_high p factor tp tq high =
        Monomials.product_high (exps count) (exps_are count) (exps n) (exps_are n) m.scalars c s k (part_of n m.value parts) i whole (poly_of n m.value p.terms) (poly_of n m.value factor.terms) h tp.truncation (of_factor factor tq)
        (subst (λ z. IsHigh (product_heights (exps z) m.scalars k (poly_of z m.value p.terms) (poly_of z m.value factor.terms))) tp.variables high)
