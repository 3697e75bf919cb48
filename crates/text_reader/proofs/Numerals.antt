-- Digits without a zero before them are the text of the number that they have, also above 64 bits.
use Rattle.std.proofs.Common.{◌≡◌, ℕ, zero, suc, ◌+◌, ◌-◌, ◌*◌, ◌/◌, ◌%◌, ◌^◌, ◌<◌, ◌≤◌, List, [], ◌∷◌, ◌++◌, length, get_or, take, Option, Some, None, sym, ap, ◌∙◌, subst, append_assoc, append-nil, arith}
use Rattle.std.specs.Prelude.{decimal, IfSome}
use Rattle.std.specs.Char.{digit_value}
use Rattle.std.specs.Str.Parse.{AllDigits, digits_value, digits_value_after}
use Rattle.std.proofs.lemmas.Fmt.{decimal_is_IsNumeral_wide, decimal_step_wide, decimal_by_steps_wide, decimal_digit}
use Rattle.std.proofs.lemmas.Int.Digits.{digits_value_more, digits_more}
use Rattle.std.proofs.lemmas.List.{length-append, get_or_append_left}
use Rattle.std.proofs.lemmas.Str.{digit_value_digit}
use Rattle.text_reader.specs.Reading.{IsTextOf}
use Rattle.text_reader.specs.Digits.{IsValueOf, IsCanonical}
use Rattle.std.proofs.lemmas.Str.Parse.{digit_from_value, digit_at, digits_value-take-le}

le_value_after : (n : ℕ) (ds : List ℕ) → n ≤ digits_value_after 10 n ds
le_value_after n [] = omega arith
le_value_after n (c ∷ cs) = omega (arith, le_value_after (n * 10 + digit_value c) cs)

-- digits behind a number that is not 0
after : (n : ℕ) (ds : List ℕ) → 0 < n → AllDigits 10 ds → digits_value_after 10 n ds < 10 ^ 64 → decimal (digits_value_after 10 n ds) ≡ decimal n ++ ds
after n [] some d small = sym (append-nil (decimal n))
after n (c ∷ cs) some d small =
    let m : ℕ = n * 10 + digit_value c in
    let k = digit_value_digit c (digit_from_value c d.0) in
    let front : m / 10 ≡ n = omega (arith, d.0) in
    let end : 48 + m % 10 ≡ c = omega (arith, d.0) in
    after m cs (omega arith) d.1 small
    ∙ ap (λ x. x ++ cs) (decimal_step_wide m (omega arith) (omega (arith, le_value_after m cs)) ∙ (λ i. decimal (front i) ++ (end i ∷ [])))
    ∙ append_assoc (decimal n) (c ∷ []) cs

one_digit : (c : ℕ) → digit_value c < 10 → decimal (digits_value 10 (c ∷ [])) ≡ c ∷ []
one_digit c d =
    let k = digit_value_digit c (digit_from_value c d) in
    decimal_digit (0 * 10 + digit_value c) (omega (arith, d)) ∙ ap (λ x. x ∷ []) (omega arith)

-- digits in their one form are the text of their number
pub numeral : (ds : List ℕ) → AllDigits 10 ds → IsCanonical ds → digits_value 10 ds < 10 ^ 64 → decimal (digits_value 10 ds) ≡ ds
numeral [] d is small = absurd (omega arith)
numeral (c ∷ []) d is small = one_digit c d.0
numeral (c ∷ e ∷ cs) d is small =
    let k = digit_value_digit c (digit_from_value c d.0) in
    let no : c ≡ 48 → ⊥ = λ z. omega (arith, is.1 z) in
    let first : 48 + (0 * 10 + digit_value c) ≡ c = omega arith in
    after (0 * 10 + digit_value c) (e ∷ cs) (omega arith) d.1 small
    ∙ ap (λ x. x ++ (e ∷ cs)) (decimal_digit (0 * 10 + digit_value c) (omega (arith, d.0)) ∙ ap (λ x. x ∷ []) first)

-- ---- the number of a numeral

module _ (n : ℕ) (bytes : List ℕ) (small : n < 10 ^ 64) (is : decimal n ≡ bytes) where
  all_digits : AllDigits 10 bytes
  all_digits = subst (AllDigits 10) is (decimal_is_IsNumeral_wide n small).0.1

  pub value_is : digits_value 10 bytes ≡ n
  value_is = ap (digits_value 10) (sym is) ∙ (decimal_is_IsNumeral_wide n small).1

  -- each byte is a digit
  pub digit_there : (i : ℕ) → i < length bytes → (48 ≤ get_or bytes i 0) × (get_or bytes i 0 ≤ 57)
  digit_there i lt = let h = digit_at bytes i all_digits lt in (h.0, h.1)

  -- a front has at most the value of the whole
  pub front_le : (i : ℕ) → digits_value 10 (take i bytes) ≤ n
  front_le i = omega (arith, digits_value-take-le 10 bytes i (omega arith), value_is)

  pub some_digit : 0 < length bytes
  some_digit = subst (λ z. 0 < length z) is (decimal_is_IsNumeral_wide n small).0.0

-- a number above 0 begins with no zero
first_wide : (n : ℕ) → n < 10 ^ 64 → (0 < length (decimal n)) × (0 < n → 48 < get_or (decimal n) 0 0)
first_wide n small = decimal_by_steps_wide (λ m ds. (0 < length ds) × (0 < m → 48 < get_or ds 0 0)) (λ m l. (omega arith, λ a. omega arith))
    (λ m ds l h. (omega (arith, length-append ds ((48 + m % 10) ∷ [])), λ a. omega (arith, get_or_append_left ds ((48 + m % 10) ∷ []) 0 0 h.0, h.1 (omega arith)))) n small

zero_alone : (n : ℕ) → n < 10 ^ 64 → get_or (decimal n) 0 0 ≡ 48 → length (decimal n) ≡ 1
zero_alone zero small e = ap length (decimal_digit 0 (omega arith))
zero_alone (suc n) small e = let h = (first_wide (suc n) small).1 (omega arith) in absurd (omega (arith, h, e))

-- the text of a number is in its one form
pub canonical : (n : ℕ) (bytes : List ℕ) → n < 10 ^ 64 → decimal n ≡ bytes → IsCanonical bytes
canonical n bytes small is = subst IsCanonical is ((decimal_is_IsNumeral_wide n small).0.0, zero_alone n small)

-- ---- a loop over the digits

pub value_more : (bytes : List ℕ) (i v : ℕ) → i < length bytes → 48 ≤ get_or bytes i 0 → get_or bytes i 0 ≤ 57 → IsValueOf (take i bytes) v → IsValueOf (take (i + 1) bytes) (v * 10 + (get_or bytes i 0 - 48))
value_more bytes i v lt low high is =
    let k = digit_value_digit (get_or bytes i 0) (low, high) in
    (omega (arith, digits_value_more 10 bytes i lt, is.0, k), digits_more 10 bytes i lt is.1 (omega (arith, k)))

-- a number whose text goes on with this digit is at least what was read so far and the digit
pub more_le : (n : ℕ) (bytes : List ℕ) (i v : ℕ) → n < 10 ^ 64 → decimal n ≡ bytes → i < length bytes → 48 ≤ get_or bytes i 0 → get_or bytes i 0 ≤ 57 → IsValueOf (take i bytes) v → v * 10 + (get_or bytes i 0 - 48) ≤ n
more_le n bytes i v small is lt low high so_far =
    let more = value_more bytes i v lt low high so_far in
    omega (arith, more.0, front_le n bytes small is (i + 1))

-- digits in their one form were read
pub numeral_some : (bytes : List ℕ) (most : ℕ) (r : Option ℕ) → most < 10 ^ 64 → IsCanonical bytes → IfSome r (λ n. IsValueOf bytes n × (n ≤ most)) → IfSome r (IsTextOf (λ n. n ≤ most) decimal bytes)
numeral_some bytes most None lt form h = tt
numeral_some bytes most (Some n) lt form h =
    let small : digits_value 10 bytes < 10 ^ 64 = omega (arith, h.0.0, h.1) in
    (h.1, ap decimal h.0.0 ∙ numeral bytes h.0.1 form small)
