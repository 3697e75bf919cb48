-- The factors of a monomial, one after another.
use Rattle.std.proofs.Common.{◌≡◌, ◌≢◌, ℕ, zero, suc, ◌+◌, ◌<◌, ◌≤◌, Bool, true, false, cond, eqb, Option, Some, None, List, [], ◌∷◌, ◌++◌, length, get_or, set, take, drop, add-one, refl, sym, ap, ◌∙◌, subst, append_assoc, append-nil, arith}
use Rattle.std.specs.Prelude.{decimal, IsSomeAnd, is_some}
use Rattle.std.specs.List.{AllByRecursion}
use Rattle.std.specs.Borrow.{Bor}
use Rattle.std.proofs.lemmas.Bool.{eqb-true, eq-eqb}
use Rattle.std.proofs.Math.Seq.{drop-cons}
use Rattle.std.proofs.lemmas.List.{take_all, drop_all, take_more, take_more_set, length-set, length-take-le}
use Rattle.poly_text.specs.Polynomials.{exponent_text, factor_text, factors_text, new_name, new_names}
use Rattle.cert_law.proofs.Cut.{head, cut}
use Rattle.mono_exp.specs.declared.exponent.Exp.{Exp}
use Rattle.cert_law.specs.Fields.{IsMonomial}
use Rattle.cert_law.proofs.Monomials.{factors_from, present, starred_is}
use Rattle.cert_law.specs.Unique.{Starts}
use Rattle.text_reader.specs.Reading.{IsTextOf}
use Rattle.text_reader.specs.Factors.{starred, IsLater, IsExponent}
use Rattle.text_reader.proofs.Visible.{digits_lack}
use Rattle.text_reader.proofs.Fractions.{decimal_same}

-- an exponent by the test for 1
abbrev raised : Bool → ℕ → List ℕ
raised one e = cond one [] (94 ∷ decimal e)

-- ---- exponents

written_by : (t : Bool) (e : ℕ) (ds : List ℕ) → eqb e 1 ≡ t → raised t e ≡ 94 ∷ ds → (e ≢ 1) × (decimal e ≡ ds)
written_by true e ds at h = absurd cc
written_by false e ds at h = ((λ one. let yes = eq-eqb e 1 one in absurd (cc (at, yes))), (head 94 94 (decimal e) ds h).1)

-- an exponent that is written is not 1
pub written : (e : ℕ) (ds : List ℕ) → exponent_text e ≡ 94 ∷ ds → (e ≢ 1) × (decimal e ≡ ds)
written e ds h = written_by (eqb e 1) e ds refl h

-- an exponent that is written is none below 2
pub not_small : (e n : ℕ) (ds bytes : List ℕ) → IsExponent e → exponent_text e ≡ bytes → bytes ≡ 94 ∷ ds → n < 256 → decimal n ≡ ds → n < 2 → ⊥
not_small e n ds bytes ok is there lt digits small =
    let w = written e ds (is ∙ there) in
    let same = decimal_same e n (omega (arith, ok.1)) (omega (arith, lt)) (w.1 ∙ sym digits) in
    let two : 2 ≤ e = omega (arith, ok.0, w.0) in
    omega (arith, same, two, small)

same_by : (t s : Bool) (e f : ℕ) → eqb e 1 ≡ t → eqb f 1 ≡ s → e < 256 → f < 256 → raised t e ≡ raised s f → e ≡ f
same_by true true e f at bt le lf h = eqb-true e 1 at ∙ sym (eqb-true f 1 bt)
same_by true false e f at bt le lf h = absurd cc
same_by false true e f at bt le lf h = absurd cc
same_by false false e f at bt le lf h = decimal_same e f (omega (arith, le)) (omega (arith, lf)) (head 94 94 (decimal e) (decimal f) h).1

-- two exponents of one text are one
pub exponent_same : (e f : ℕ) → e < 256 → f < 256 → exponent_text e ≡ exponent_text f → e ≡ f
exponent_same e f le lf h = same_by (eqb e 1) (eqb f 1) e f refl refl le lf h

no_star_by : (t : Bool) (e : ℕ) → e < 256 → AllByRecursion (λ b. b ≢ 42) (raised t e)
no_star_by true e lt = tt
no_star_by false e lt = ((λ h. omega (arith, h)), digits_lack 42 e (omega arith) (omega (arith, lt)))

no_star : (e : ℕ) → e < 256 → AllByRecursion (λ b. b ≢ 42) (exponent_text e)
no_star e lt = no_star_by (eqb e 1) e lt

-- ---- one factor

later_starts : (digit : ℕ) (rest : List ℕ) → IsLater digit rest → Starts (λ b. b ≡ 42) rest
later_starts digit [] h = tt
later_starts digit (a ∷ []) h = absurd h
later_starts digit (a ∷ b ∷ []) h = absurd h
later_starts digit (a ∷ b ∷ d ∷ bytes) h = h.0

starred_starts : (r : Option (Bor (List ℕ))) → Starts (λ b. b ≡ 42) (starred r)
starred_starts None = tt
starred_starts (Some text) = refl

-- the factor of this variable that stands at the front, and what follows it
pub record IsPowerAt (e : ℕ) (front rest after : List ℕ) : Type 0 where
  pub some : e ≢ 0
  pub exponent : exponent_text e ≡ front
  pub follows : rest ≡ after

power_by : (t : Bool) (digit e : ℕ) (rest behind : List ℕ) → eqb e 0 ≡ t → IsLater digit rest → cond t [] (42 ∷ 117 ∷ digit ∷ exponent_text e) ++ rest ≡ 42 ∷ 117 ∷ digit ∷ behind → (e ≢ 0) × (exponent_text e ++ rest ≡ behind)
power_by true digit e [] behind at later h = absurd cc
power_by true digit e (a ∷ []) behind at later h = absurd later
power_by true digit e (a ∷ b ∷ []) behind at later h = absurd later
power_by true digit e (a ∷ b ∷ d ∷ bytes) behind at later h = absurd (later.2 (head d digit bytes behind (head b 117 (d ∷ bytes) (digit ∷ behind) (head a 42 _ _ h).1).1).0)
power_by false digit e rest behind at later h =
    ((λ zero_is. let yes = eq-eqb e 0 zero_is in absurd (cc (at, yes))), (head digit digit _ behind (head 117 117 _ (digit ∷ behind) (head 42 42 _ (117 ∷ digit ∷ behind) h).1).1).1)

pub power_at : (digit e : ℕ) (rest text behind front : List ℕ) (after : Option (Bor (List ℕ))) → e < 256 → IsLater digit rest → 42 ∷ text ≡ factor_text (new_name digit) e ++ rest → text ≡ 117 ∷ digit ∷ behind → behind ≡ front ++ starred after → AllByRecursion (λ b. b ≢ 42) front
    → IsPowerAt e front rest (starred after)
power_at digit e rest text behind front after lt later h there split free =
    let p = power_by (eqb e 0) digit e rest behind refl later (sym h ∙ ap (λ z. 42 ∷ z) there) in
    let k = cut (λ b. b ≢ 42) (λ b. b ≡ 42) (λ b i o. i o) (exponent_text e) front rest (starred after) (no_star e lt) free (later_starts digit rest later) (starred_starts after) (p.1 ∙ split) in
    record { some = p.0; exponent = k.0; follows = k.1 }

-- ---- all factors

abbrev factor : ℕ → ℕ → List ℕ
factor d e = factor_text (new_name d) e

-- the factors of later variables begin with none of this one
later_step : (t : Bool) (c d e : ℕ) (more : List ℕ) → c < d → IsLater c more → IsLater c (cond t [] (present d e) ++ more)
later_step true c d e more lt h = h
later_step false c d e more lt h = (refl, refl, (λ q. omega (arith, q, lt)))

later_from : (c d : ℕ) (es : List ℕ) → c < d → IsLater c (factors_from d es)
later_from c d [] lt = tt
later_from c d (e ∷ es) lt = later_step (eqb e 0) c d e (factors_from (d + 1) es) lt (later_from c (d + 1) es (omega (arith, lt)))

from_append : (d : ℕ) (es : List ℕ) (e : ℕ) → factors_from d (es ++ e ∷ []) ≡ factors_from d es ++ factor (d + length es) e
from_append d [] e = let here : d + 0 ≡ d = omega arith in append-nil (factor d e) ∙ ap (λ n. factor n e) (sym here)
from_append d (x ∷ es) e =
    let far : d + 1 + length es ≡ d + suc (length es) = omega arith in
    ap (λ z. factor d x ++ z) (from_append (d + 1) es e ∙ ap (λ n. factors_from (d + 1) es ++ factor n e) far) ∙ sym (append_assoc (factor d x) (factors_from (d + 1) es) (factor (d + suc (length es)) e))

-- the exponents of the first i variables, and the factors that are left
pub record IsReadTo (i : ℕ) (bytes es : List ℕ) (factors : Option (Bor (List ℕ))) : Type 0 where
  pub long : length es ≡ 8
  pub fit : AllByRecursion (λ e. e < 256) (take i es)
  pub sound : factors_from 49 (take i es) ++ starred factors ≡ 42 ∷ bytes
  pub complete : (fs : List ℕ) → length fs ≡ 8 → AllByRecursion (λ e. e < 256) fs → factors_from 49 fs ≡ 42 ∷ bytes → (take i fs ≡ take i es) × (factors_from (49 + i) (drop i fs) ≡ starred factors)

-- the exponents fs have es before the place i, and factors of the variable there and of later ones
left_at : (i : ℕ) (fs : List ℕ) → i < length fs → factors_from (49 + i) (drop i fs) ≡ factor (49 + i) (get_or fs i 0) ++ factors_from (49 + i + 1) (drop (i + 1) fs)
left_at i fs lt = ap (factors_from (49 + i)) (drop-cons fs i 0 lt ∙ ap (λ n. get_or fs i 0 ∷ drop n fs) (sym (add-one i)))

-- what a reader of one factor finds
abbrev pub FindsPower : ℕ → Option (Bor (List ℕ)) → Option (ℕ × Option (Bor (List ℕ))) → Type 0
FindsPower digit factors r = (e : ℕ) (rest : List ℕ) → e < 256 → IsLater digit rest → starred factors ≡ factor digit e ++ rest → IsSomeAnd r (λ p. (p.0 ≡ e) × (starred p.1 ≡ rest))

fit_at : (fs : List ℕ) (i : ℕ) → AllByRecursion (λ e. e < 256) fs → i < length fs → get_or fs i 0 < 256
fit_at [] i h lt = omega arith
fit_at (f ∷ fs) zero h lt = h.0
fit_at (f ∷ fs) (suc i) h lt = fit_at fs i h.1 (omega (arith, lt))

fit_push : (fs : List ℕ) (e : ℕ) → AllByRecursion (λ e. e < 256) fs → e < 256 → AllByRecursion (λ e. e < 256) (fs ++ e ∷ [])
fit_push [] e h lt = (lt, tt)
fit_push (f ∷ fs) e h lt = (h.0, fit_push fs e h.1 lt)

module _ (i : ℕ) (bytes es : List ℕ) (factors : Option (Bor (List ℕ))) (is : IsReadTo i bytes es factors) (lt : i < 8) where
  within : i < length es
  within = omega (arith, is.long, lt)

  length_front : length (take i es) ≡ i
  length_front = length-take-le i es (omega (arith, within))

  -- the factor at the place i of exponents with this text
  found_at : (fs : List ℕ) → length fs ≡ 8 → AllByRecursion (λ e. e < 256) fs → factors_from 49 fs ≡ 42 ∷ bytes → starred factors ≡ factor (49 + i) (get_or fs i 0) ++ factors_from (49 + i + 1) (drop (i + 1) fs)
  found_at fs long fit e = let inside : i < length fs = omega (arith, long, lt) in sym ((is.complete fs long fit e).1) ∙ left_at i fs inside

  -- where no factor of the variable at the place i is found, the bytes are no factors
  pub read_fails : FindsPower (49 + i) factors None → (fs : List ℕ) → length fs ≡ 8 → AllByRecursion (λ e. e < 256) fs → factors_from 49 fs ≡ 42 ∷ bytes → ⊥
  read_fails finds fs long fit e =
      finds (get_or fs i 0) (factors_from (49 + i + 1) (drop (i + 1) fs)) (fit_at fs i fit (omega (arith, long, lt))) (later_from (49 + i) (49 + i + 1) (drop (i + 1) fs) (omega arith)) (found_at fs long fit e)

  pub read_more : (e : ℕ) (rest : Option (Bor (List ℕ))) → e < 256 → starred factors ≡ factor (49 + i) e ++ starred rest → FindsPower (49 + i) factors (Some (e, rest)) → IsReadTo (i + 1) bytes (set es i e) rest
  read_more e rest small text finds = record {
    long = length-set es i e ∙ is.long;
    fit = subst (AllByRecursion (λ e. e < 256)) (sym front) (fit_push (take i es) e is.fit small);
    sound = ap (λ z. factors_from 49 z ++ starred rest) front ∙ ap (λ z. z ++ starred rest) (from_append 49 (take i es) e) ∙ append_assoc (factors_from 49 (take i es)) (factor (49 + length (take i es)) e) (starred rest)
        ∙ ap (λ n. factors_from 49 (take i es) ++ (factor (49 + n) e ++ starred rest)) length_front ∙ ap (λ z. factors_from 49 (take i es) ++ z) (sym text) ∙ is.sound;
    complete = λ fs long fit h.
        let inside : i < length fs = omega (arith, long, lt) in
        let here = finds (get_or fs i 0) (factors_from (49 + i + 1) (drop (i + 1) fs)) (fit_at fs i fit inside) (later_from (49 + i) (49 + i + 1) (drop (i + 1) fs) (omega arith)) (found_at fs long fit h) in
        let next : 49 + i + 1 ≡ 49 + (i + 1) = omega arith in (
          take_more fs i 0 inside ∙ ap (λ z. z ++ get_or fs i 0 ∷ []) (is.complete fs long fit h).0 ∙ ap (λ z. take i es ++ z ∷ []) (sym here.0) ∙ sym front,
          ap (λ n. factors_from n (drop (i + 1) fs)) (sym next) ∙ sym here.1,
        );
  }
    where
      front : take (i + 1) (set es i e) ≡ take i es ++ e ∷ []
      front = take_more_set es i e within

-- all factors were read
pub read_all : (bytes es : List ℕ) (factors : Option (Bor (List ℕ))) → IsReadTo 8 bytes es factors → starred factors ≡ [] → AllByRecursion (λ e. e < 256) es × (factors_from 49 es ≡ 42 ∷ bytes)
read_all bytes es factors is none =
    let whole : take 8 es ≡ es = take_all 8 es (omega (arith, is.long)) in (
      subst (AllByRecursion (λ e. e < 256)) whole is.fit,
      ap (factors_from 49) (sym whole) ∙ sym (append-nil (factors_from 49 (take 8 es))) ∙ ap (λ z. factors_from 49 (take 8 es) ++ z) (sym none) ∙ is.sound,
    )

-- factors that are left behind the eighth variable are none of a monomial
pub read_past : (bytes es : List ℕ) (factors : Option (Bor (List ℕ))) → IsReadTo 8 bytes es factors → (starred factors ≡ [] → ⊥) → (fs : List ℕ) → length fs ≡ 8 → AllByRecursion (λ e. e < 256) fs → factors_from 49 fs ≡ 42 ∷ bytes → ⊥
read_past bytes es factors is some fs long fit h = some (sym (is.complete fs long fit h).1 ∙ ap (factors_from 57) (drop_all 8 fs (omega (arith, long))))

pub some_left : (r : Option (Bor (List ℕ))) → is_some r ≡ true → starred r ≡ [] → ⊥
some_left None e h = absurd cc
some_left (Some text) e h = absurd cc

pub none_left : (r : Option (Bor (List ℕ))) → is_some r ≡ false → starred r ≡ []
none_left None e = refl
none_left (Some text) e = absurd cc

-- the factors of a monomial, from the first digit on
pub monomial_factors : (m : Exp) (bytes : List ℕ) → IsMonomial m → factors_text new_names m.e ≡ bytes → factors_from 49 m.e ≡ bytes
monomial_factors m bytes is e = sym (starred_is m is.eight) ∙ e

pub factors_monomial : (m : Exp) (bytes : List ℕ) → length m.e ≡ 8 → AllByRecursion (λ e. e < 256) m.e × (factors_from 49 m.e ≡ bytes) → IsTextOf IsMonomial (λ m. factors_text new_names m.e) bytes m
factors_monomial m bytes long h = (record { eight = long; fit = h.0 }, starred_is m long ∙ h.1)

pub at_end : (i : ℕ) (bytes es : List ℕ) (factors : Option (Bor (List ℕ))) → 8 ≤ i → i ≤ 8 → IsReadTo i bytes es factors → IsReadTo 8 bytes es factors
at_end i bytes es factors low high is = let same : i ≡ 8 = omega arith in subst (λ n. IsReadTo n bytes es factors) same is
