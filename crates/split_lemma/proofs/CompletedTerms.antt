-- The terms that the split move puts for a square variable, as they are written one after the other.
use Rattle.std.proofs.Common.{◌≡◌, ◌≢◌, ℕ, zero, suc, ◌+◌, ◌-◌, ◌<◌, ◌≤◌, ◌^◌, inl, inr, true, false, ◌||◌, ◌&&◌, cond, eqb, List, [], ◌∷◌, ◌++◌, map, take, get_or, length, sum, refl, sym, ap, ap₂, subst, ◌∙◌, append_assoc, append-nil, arith}
use Rattle.std.specs.List.{flat_map}
use Rattle.std.proofs.lemmas.Bool.{lt-ltb}
use Rattle.std.proofs.lemmas.List.Concat.{flat_map-append}
use Rattle.ring_theory.specs.Scalars.{Meaning, MeaningLaws}
use Rattle.poly_law.specs.Exps.{lower, degree}
use Rattle.poly_law.specs.ExpList.{ExpList, exps}
use Rattle.poly_law.proofs.ExpLists.{exps_are}
use Rattle.poly_law.proofs.ExpLaws
use Rattle.mono_exp.specs.declared.exponent.Exp.{Exp}
use Rattle.mono_exp.specs.Exponents.{IsIn, is_before, is_greater_first}
use Rattle.mono_exp.proofs.Lists.{sum-cons}
use Rattle.jet_law.specs.Terms.{exp_of, poly_of}
use Rattle.jet_law.proofs.TermLemmas.{poly_of-take, poly_of-push, degree-exp_of}
use Rattle.jet_poly.specs.JetTerms.{IsRising}
use Rattle.jet_poly.specs.Jets.{IsJet}
use Rattle.jet_poly.proofs.Derived.{AreReady, IsTerm, keys, key-read, keys-rise, before-lowered, in-lowered, degree-lowered, lowered, ready-jet}
use Rattle.jet_poly.proofs.GatheredLemmas.{weaker}
use Rattle.jet_poly.proofs.Output.{all-push, rising-push}
use Rattle.jet_poly.proofs.Steps.{inside, read}
use Rattle.coord_change.specs.Linear.{one_at}
use Rattle.coord_change.proofs.ChangeLemmas.{one_at-in, exp_of-one_at}
use Rattle.lin_row.specs.Plain.{Among}
use Rattle.coord_change.specs.Moves.{variable_of}
use Rattle.move_law.specs.Split.{belongs_to, completed_by, completed_work}
use Rattle.move_law.specs.Work.{Work, IsWorkHigh}
use Rattle.split_lemma.specs.Splits.{AreTermsOf}
use Rattle.split_lemma.proofs.Belonging.{Belongs, belongs}

sum-lowered : (v : ℕ) (e : List ℕ) → 0 < get_or e v 0 → sum (lowered v e) + 1 ≡ sum e
sum-lowered v [] h = absurd (omega arith)
sum-lowered zero (x ∷ e) h = let a = sum-cons (x - 1) e in let b = sum-cons x e in omega arith
sum-lowered (suc v) (x ∷ e) h = let a = sum-cons x (lowered v e) in let b = sum-cons x e in let r = sum-lowered v e h in omega arith

-- what holds of one of the first elements, or of one of the last
pub among_left : {X : Type 0} (P : X → Type 0) (xs ys : List X) → Among P xs → Among P (xs ++ ys)
among_left P [] ys a = absurd a
among_left P (x ∷ xs) ys (inl p) = inl p
among_left P (x ∷ xs) ys (inr a) = inr (among_left P xs ys a)

pub among_right : {X : Type 0} (P : X → Type 0) (xs ys : List X) → Among P ys → Among P (xs ++ ys)
among_right P [] ys a = a
among_right P (x ∷ xs) ys a = inr (among_right P xs ys a)

pub among_mapped : {X Y : Type 0} (P : Y → Type 0) (g : X → List Y) (xs : List X) (i : ℕ) (x : X) → i < length xs → x ≡ get_or xs i x → Among P (g x) → Among P (flat_map g xs)
among_mapped P g [] i x h e a = absurd (omega arith)
among_mapped P g (y ∷ ys) zero x h e a = among_left P (g y) (flat_map g ys) (subst (λ z. Among P (g z)) e a)
among_mapped P g (y ∷ ys) (suc i) x h e a = among_right P (g y) (flat_map g ys) (among_mapped P g ys i x (omega arith) e a)

-- the monomial that the term at place j gives, and that this term belongs to w
abbrev pub key_of : {E : Type 0} → ℕ → List (Exp × E) → ℕ → List ℕ
key_of w f j = lowered w (get_or (keys f) j [])

abbrev pub belongs_at : {E : Type 0} → ℕ → ℕ → List (Exp × E) → ℕ → Type 0
belongs_at d w f j = Belongs d w (get_or (keys f) j [])

-- the terms written after the first i terms of f: the variable w, and what those that belong to w give
pub record AreCompleted {E V : Type 0} (n c d w : ℕ) (m : Meaning E V) (inverse : V) (f : List (Exp × E)) (i : ℕ) (part : List (Exp × E)) : Type 0 where
  pub ready : AreReady n 16 m (key_of w f) (belongs_at d w f) i (length f) part
  pub so_far : poly_of n m.value part ≡ variable_of n m.scalars w ++ flat_map (completed_by n m.scalars c d inverse w) (poly_of n m.value (take i f))

sum-one_at : (n w : ℕ) → w < n → n ≤ 8 → sum (one_at w) ≡ 1
sum-one_at n w h e = sym (degree-exp_of n (record { e = one_at w }) (one_at-in n w h e)) ∙ ap (degree (exps n)) (exp_of-one_at n w h e) ∙ ExpLaws.degree-variable (exps n) (exps_are n) w h

module _ {E V : Type 0} (n c d w : ℕ) (m : Meaning E V) (inverse : V) (f : List (Exp × E)) where
  skip : (i : ℕ) (part : List (Exp × E)) → AreReady n 16 m (key_of w f) (belongs_at d w f) i (length f) part → AreReady n 16 m (key_of w f) (belongs_at d w f) (i + 1) (length f) part
  skip i part r = record {
    each = r.each;
    rising = r.rising;
    before = weaker (λ u. (j : ℕ) → i ≤ j → j < length f → belongs_at d w f j → is_before u.0.e (key_of w f j) ≡ true) (λ u. (j : ℕ) → i + 1 ≤ j → j < length f → belongs_at d w f j → is_before u.0.e (key_of w f j) ≡ true)
        (λ u h j l g o. h j (omega arith) g o) part r.before;
  }

  push : (i : ℕ) (part : List (Exp × E)) (t : Exp × E) → IsRising f → i < length f → belongs_at d w f i → t.0.e ≡ key_of w f i → IsTerm n 16 m t
      → AreReady n 16 m (key_of w f) (belongs_at d w f) i (length f) part → AreReady n 16 m (key_of w f) (belongs_at d w f) (i + 1) (length f) (part ++ t ∷ [])
  push i part t rises h o e term r =
      let less = skip i part r in
      record {
        each = all-push (IsTerm n 16 m) part t r.each term;
        rising = rising-push part t r.rising (weaker (λ u. (j : ℕ) → i ≤ j → j < length f → belongs_at d w f j → is_before u.0.e (key_of w f j) ≡ true) (λ u. is_before u.0.e t.0.e ≡ true)
            (λ u b. subst (λ z. is_before u.0.e z ≡ true) (sym e) (b i (omega arith) h o)) part r.before);
        before = all-push (λ u. (j : ℕ) → i + 1 ≤ j → j < length f → belongs_at d w f j → is_before u.0.e (key_of w f j) ≡ true) part t less.before
            (λ j l g oj. subst (λ z. is_before z (key_of w f j) ≡ true) (sym e)
            (before-lowered w (get_or (keys f) i []) (get_or (keys f) j []) o.there oj.there (keys-rise f i j rises (omega arith) g)));
      }

  -- the first i + 1 terms give what the first i give, and what term i gives
  more : (i : ℕ) (t : Exp × E) → i < length f → t ≡ get_or f i t → flat_map (completed_by n m.scalars c d inverse w) (poly_of n m.value (take (i + 1) f))
      ≡ flat_map (completed_by n m.scalars c d inverse w) (poly_of n m.value (take i f)) ++ completed_by n m.scalars c d inverse w (exp_of n t.0, m.value t.1)
  more i t h e =
      let g = completed_by n m.scalars c d inverse w in
      ap (flat_map g) (poly_of-take n m.value f i t h e)
      ∙ flat_map-append g (poly_of n m.value (take i f)) ((exp_of n t.0, m.value t.1) ∷ [])
      ∙ ap (λ z. flat_map g (poly_of n m.value (take i f)) ++ z) (append-nil (g (exp_of n t.0, m.value t.1)))

  -- the variable alone
  pub started : MeaningLaws m → w < n → n ≤ 8 → 3 ≤ d → (a : Exp) (one : E) (part : List (Exp × E)) → a.e ≡ one_at w → m.is_elem one → m.value one ≡ m.scalars.ops.one
      → part ≡ (a, one) ∷ [] → AreCompleted n c d w m inverse f 0 part
  started laws h e three a one part ea elem is q =
      subst (AreCompleted n c d w m inverse f 0) (sym q)
      (record {
        ready = record {
          each = (
            record {
              unused = subst (IsIn n) (sym ea) (one_at-in n w h e);
              degree = subst (λ z. sum z ≤ 16) (sym ea) (let one = sum-one_at n w h e in omega arith);
              elem = elem;
              unit = λ z. laws.numbers.nontrivial (sym is ∙ z);
            },
            tt,
          );
          rising = (tt, tt);
          before = (
            (λ j l g o.
                let down = sum-lowered w (get_or (keys f) j []) o.there in
                let total : sum (get_or (keys f) j []) ≡ d = o.degree in
                let one : sum a.e ≡ 1 = ap sum ea ∙ sum-one_at n w h e in
                ap (λ t. t || (eqb (sum a.e) (sum (key_of w f j)) && is_greater_first a.e (key_of w f j))) (lt-ltb (sum a.e) (sum (key_of w f j)) (omega arith))),
            tt,
          );
        };
        so_far = ap₂ (λ y z. (y, z) ∷ []) (ap (λ z. Rattle.poly_law.specs.ExpList.exp_of n (λ i. get_or z i 0)) ea ∙ exp_of-one_at n w h e) is;
      })

  -- a term that does not belong to w gives nothing
  pub passed : (i : ℕ) (t : Exp × E) (part : List (Exp × E)) → i < length f → t ≡ get_or f i t → belongs_to n c d w (exp_of n t.0) ≡ false
      → AreCompleted n c d w m inverse f i part → AreCompleted n c d w m inverse f (i + 1) part
  passed i t part h e b so = record {
    ready = skip i part so.ready;
    so_far = so.so_far ∙ ap (λ z. variable_of n m.scalars w ++ z)
        (sym (more i t h e ∙ ap (λ z. flat_map (completed_by n m.scalars c d inverse w) (poly_of n m.value (take i f)) ++ z)
        (ap (λ b. cond b ((lower (exps n) w (exp_of n t.0), m.scalars.ops.neg (m.scalars.ops.mul (m.value t.1) inverse)) ∷ []) []) b)
        ∙ append-nil (flat_map (completed_by n m.scalars c d inverse w) (poly_of n m.value (take i f)))));
  }

  -- a term that belongs to w gives - coefficient * (monomial / w) * inverse
  pub pushed : (k : ℕ) → k ≤ 16 → IsRising f → IsJet m (record { n = n; order = k; terms = f }) → w < n → (i : ℕ) (t : Exp × E) (part : List (Exp × E)) (a : Exp) (x : E)
      → i < length f → t ≡ get_or f i t → belongs_to n c d w (exp_of n t.0) ≡ true → a.e ≡ lowered w t.0.e → exp_of n a ≡ lower (exps n) w (exp_of n t.0)
      → m.is_elem x → m.value x ≢ m.scalars.ops.zero → m.value x ≡ m.scalars.ops.neg (m.scalars.ops.mul (m.value t.1) inverse)
      → AreCompleted n c d w m inverse f i part → AreCompleted n c d w m inverse f (i + 1) (part ++ (a, x) ∷ [])
  pushed k order rises jet hw i t part a x h e b ea el elem unit is so =
      let here : IsIn n t.0.e = subst (λ z. IsIn n z.0.e) (sym e) (jet.variables i t h) in
      let low : sum t.0.e ≤ k = subst (λ z. sum z.0.e ≤ k) (sym e) (jet.degrees i t h) in
      let own = belongs n c d w t.0 hw here b in
      let key = key-read f i t h e in
      record {
        ready = push i part (a, x) rises h (subst (Belongs d w) (sym key) own) (ea ∙ ap (lowered w) (sym key))
            (record {
              unused = subst (IsIn n) (sym ea) (in-lowered n w t.0.e here);
              degree = subst (λ z. sum z ≤ 16) (sym ea) (degree-lowered w t.0.e 16 own.there (omega arith));
              elem = elem;
              unit = unit;
            }) so.ready;
        so_far = poly_of-push n m.value part (a, x) ∙ ap₂ (λ y z. y ++ z) so.so_far (ap₂ (λ y z. (y, z) ∷ []) el is)
            ∙ append_assoc (variable_of n m.scalars w) (flat_map (completed_by n m.scalars c d inverse w) (poly_of n m.value (take i f))) ((lower (exps n) w (exp_of n t.0), m.scalars.ops.neg (m.scalars.ops.mul (m.value t.1) inverse)) ∷ [])
            ∙ ap (λ z. variable_of n m.scalars w ++ z)
            (sym (more i t h e ∙ ap (λ z. flat_map (completed_by n m.scalars c d inverse w) (poly_of n m.value (take i f)) ++ z)
            (ap (λ b. cond b ((lower (exps n) w (exp_of n t.0), m.scalars.ops.neg (m.scalars.ops.mul (m.value t.1) inverse)) ∷ []) []) b)));
      }

  -- all that is written
  pub finished : MeaningLaws m → (i : ℕ) (part : List (Exp × E)) → AreCompleted n c d w m inverse f i part → i ≡ length f
      → AreTermsOf m n 16 (variable_of n m.scalars w ++ flat_map (completed_by n m.scalars c d inverse w) (poly_of n m.value f)) part
  finished laws i part so q = record {
    jet = ready-jet n 16 m laws.numbers (key_of w f) (belongs_at d w f) i (length f) (record { n = n; order = 16; terms = part }) refl refl so.ready;
    rising = so.ready.rising;
    polynomial = so.so_far ∙ ap (λ z. variable_of n m.scalars w ++ flat_map (completed_by n m.scalars c d inverse w) (poly_of n m.value z)) (ap (λ z. take z f) q ∙ Rattle.std.proofs.Common.take_all (length f) f (omega arith));
  }

  -- a product is high
  pub product_high : MeaningLaws m → (i : ℕ) (t : Exp × E) → i < length f → t ≡ get_or f i t → belongs_to n c d w (exp_of n t.0) ≡ true → 2 ^ 120 ≤ m.scalars.product_height (m.value t.1) inverse
      → Among (IsWorkHigh n m.scalars) (flat_map (completed_work n m.scalars c d inverse w) (poly_of n m.value f))
  product_high laws i t h e b high =
      among_mapped (IsWorkHigh n m.scalars) (completed_work n m.scalars c d inverse w) (poly_of n m.value f) i (exp_of n t.0, m.value t.1) (inside n 16 m laws.numbers f i h) (read n 16 m laws.numbers f i t e)
      (subst (λ z. Among (IsWorkHigh n m.scalars) (cond z (Work.product (m.value t.1) inverse ∷ []) [])) (sym b) (inl high))
