-- Lists with equal keys, place by place; monomials and terms that are the same.
use Rattle.std.proofs.Common.{◌≡◌, ℕ, ◌+◌, ◌<◌, List, [], ◌∷◌, ◌++◌, map, length, get_or, take, sym, ap, ap₂, ◌∙◌}
use Rattle.std.proofs.lemmas.List.{get_or-map, length-map, map-append, take_more}
use Rattle.poly_law.specs.ExpList.{ExpList, exps}
use Rattle.poly_law.proofs.ExpLists.{exps_are}
use Rattle.mono_exp.specs.declared.exponent.Exp.{Exp}
use Rattle.jet_law.specs.Terms.{exp_of, poly_of}
use Rattle.jet_law.proofs.TermLemmas.{at-exp_of}

-- ---- two lists with equal keys

module _ {X Y K : Type 0} (p : X → K) (q : Y → K) where
  -- have one length
  pub key_lengths : (xs : List X) (ys : List Y) → map p xs ≡ map q ys → length xs ≡ length ys
  key_lengths xs ys e = sym (length-map xs p) ∙ ap length e ∙ length-map ys q

  -- and equal keys at each place
  pub key_at : (xs : List X) (ys : List Y) (i : ℕ) (x : X) (y : Y) → i < length xs → i < length ys → x ≡ get_or xs i x → y ≡ get_or ys i y → map p xs ≡ map q ys → p x ≡ q y
  key_at xs ys i x y hx hy ex ey e = ap p ex ∙ sym (get_or-map p xs i x (p x) hx) ∙ ap (λ z. get_or z i (p x)) e ∙ get_or-map q ys i y (p x) hy ∙ sym (ap q ey)

  -- one equal key more
  pub keys_step : (xs : List X) (ys : List Y) (i : ℕ) (x : X) (y : Y) → i < length xs → i < length ys → x ≡ get_or xs i x → y ≡ get_or ys i y → p x ≡ q y → map p (take i xs) ≡ map q (take i ys) → map p (take (i + 1) xs) ≡ map q (take (i + 1) ys)
  keys_step xs ys i x y hx hy ex ey e so_far =
      ap (map p) (take_more xs i x hx ∙ ap (λ z. take i xs ++ z ∷ []) (sym ex)) ∙ map-append p (take i xs) (x ∷ [])
      ∙ ap₂ (λ a b. a ++ b ∷ []) so_far e
      ∙ sym (ap (map q) (take_more ys i y hy ∙ ap (λ z. take i ys ++ z ∷ []) (sym ey)) ∙ map-append q (take i ys) (y ∷ []))

-- ---- monomials

-- monomials with the same exponents of the first n variables
pub exp_of-same : (n : ℕ) (a b : Exp) → ((i : ℕ) → i < n → get_or a.e i 0 ≡ get_or b.e i 0) → exp_of n a ≡ exp_of n b
exp_of-same n a b h = (exps_are n).same_at (exp_of n a) (exp_of n b) λ i l. at-exp_of n a i l ∙ h i l ∙ sym (at-exp_of n b i l)

pub exp_of-places : (n : ℕ) (a b : Exp) → exp_of n a ≡ exp_of n b → (i : ℕ) → i < n → get_or a.e i 0 ≡ get_or b.e i 0
exp_of-places n a b e i l = sym (at-exp_of n a i l) ∙ ap (λ z. (exps n).at z i) e ∙ at-exp_of n b i l

-- ---- terms

module _ {E V : Type 0} (n : ℕ) (value : E → V) where
  abbrev term_of : Exp × E → ExpList n × V
  term_of t = (exp_of n t.0, value t.1)

  pub same_lengths : (f g : List (Exp × E)) → poly_of n value f ≡ poly_of n value g → length f ≡ length g
  same_lengths f g e = key_lengths term_of term_of f g e

  -- equal lists have the same terms
  pub same_at : (f g : List (Exp × E)) (i : ℕ) (t u : Exp × E) → i < length f → i < length g → t ≡ get_or f i t → u ≡ get_or g i u → poly_of n value f ≡ poly_of n value g → (exp_of n t.0 ≡ exp_of n u.0) × (value t.1 ≡ value u.1)
  same_at f g i t u hf hg et eu e =
      let here = key_at term_of term_of f g i t u hf hg et eu e in
      (ap (λ z. z.0) here, ap (λ z. z.1) here)

  -- one more that is the same
  pub same_step : (f g : List (Exp × E)) (i : ℕ) (t u : Exp × E) → i < length f → i < length g → t ≡ get_or f i t → u ≡ get_or g i u → (exp_of n t.0 ≡ exp_of n u.0) × (value t.1 ≡ value u.1)
      → poly_of n value (take i f) ≡ poly_of n value (take i g) → poly_of n value (take (i + 1) f) ≡ poly_of n value (take (i + 1) g)
  same_step f g i t u hf hg et eu same so_far = keys_step term_of term_of f g i t u hf hg et eu (λ j. (same.0 j, same.1 j)) so_far
