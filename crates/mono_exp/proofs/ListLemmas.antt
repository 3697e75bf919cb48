-- The list of monomials, one variable after the other.
use Rattle.std.proofs.Common.{◌≡◌, ℕ, zero, suc, ◌+◌, ◌-◌, ◌<◌, List, [], ◌∷◌, ◌++◌, map, refl, sym, ap, ap₂, ◌∙◌, append_assoc, append-nil, arith}
use Rattle.std.specs.List.{flat_map, All}
use Rattle.std.proofs.lemmas.List.{map-append}
use Rattle.mono_exp.specs.Exponents.{monomials_of, numbers_below}
use Rattle.mono_exp.proofs.Lists.{flat_map-append}

-- the monomials of degree d by the exponent of the first variable, as far as the degree of the rest has come
abbrev pub begun : ℕ → ℕ → ℕ → List (List ℕ)
begun n d j = flat_map (λ i. map (λ m. (d - i) ∷ m) (monomials_of n i)) (numbers_below j)

pub monomials-begun : (n d : ℕ) → begun n d (suc d) ≡ monomials_of (suc n) d
unfolding monomials_of
monomials-begun n d = refl

pub monomials-end : (d : ℕ) → 0 < d → monomials_of 0 d ≡ []
unfolding monomials_of
monomials-end zero h = absurd (omega arith)
monomials-end (suc d) h = refl

pub monomials-one : monomials_of 0 0 ≡ [] ∷ []
unfolding monomials_of
monomials-one = refl

-- one degree more of the rest
pub begun-more : (n d j : ℕ) → begun n d (j + 1) ≡ begun n d j ++ map (λ m. (d - j) ∷ m) (monomials_of n j)
begun-more n d j =
    ap (begun n d) (let e : j + 1 ≡ suc j = omega arith in e)
    ∙ flat_map-append (λ i. map (λ m. (d - i) ∷ m) (monomials_of n i)) (numbers_below j) (j ∷ [])
    ∙ ap (λ z. begun n d j ++ z) (append-nil (map (λ m. (d - j) ∷ m) (monomials_of n j)))

-- behind one exponent more
pub front-more : (front : List ℕ) (x : ℕ) (ms : List (List ℕ)) → map (λ m. (front ++ x ∷ []) ++ m) ms ≡ map (λ m. front ++ m) (map (λ m. x ∷ m) ms)
front-more front x [] = refl
front-more front x (m ∷ ms) = ap₂ (λ y ys. y ∷ ys) (append_assoc front (x ∷ []) m) (front-more front x ms)

pub step : (done : List (List ℕ)) (now next : List (List ℕ)) (front : List ℕ) (n d j : ℕ)
    → now ≡ done ++ map (λ m. front ++ m) (begun n d j)
    → next ≡ now ++ map (λ m. (front ++ (d - j) ∷ []) ++ m) (monomials_of n j)
    → next ≡ done ++ map (λ m. front ++ m) (begun n d (j + 1))
step done now next front n d j e q =
    q ∙ ap₂ (λ y z. y ++ z) e (front-more front (d - j) (monomials_of n j))
    ∙ append_assoc done (map (λ m. front ++ m) (begun n d j)) (map (λ m. front ++ m) (map (λ m. (d - j) ∷ m) (monomials_of n j)))
    ∙ ap (λ z. done ++ z) (sym (map-append (λ m. front ++ m) (begun n d j) (map (λ m. (d - j) ∷ m) (monomials_of n j))) ∙ ap (map (λ m. front ++ m)) (sym (begun-more n d j)))

pub map-none : (ms : List (List ℕ)) → map (λ m. [] ++ m) ms ≡ ms
map-none [] = refl
map-none (m ∷ ms) = ap (λ z. m ∷ z) (map-none ms)

pub all-push : {X : Type 0} (P : X → Type 0) (xs : List X) (x : X) → All P xs → P x → All P (xs ++ x ∷ [])
all-push P [] x a p zero d h = p
all-push P [] x a p (suc k) d h = absurd (omega arith)
all-push P (y ∷ xs) x a p zero d h = a 0 d (omega arith)
all-push P (y ∷ xs) x a p (suc k) d h = all-push P xs x (λ k d h. a (suc k) d (omega arith)) p k d (omega arith)
