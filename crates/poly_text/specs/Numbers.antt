-- The text of fractions, of elements of an algebra, and of sums.
use Rattle.std.specs.Prelude.{ℕ, ℤ, pos, negsuc, Bool, not, ◌&&◌, List, [], ◌∷◌, ◌++◌, codes, ◌==◌, if◌then◌else◌}
use Rattle.std.specs.Fmt.{signed_decimal}
use Rattle.std.specs.List.{filter, flat_map, zip}
use Rattle.std.specs.Ordering.{int_eq}
use Rattle.ring_law.specs.declared.fraction.Frac.{Frac}
use Rattle.ext_algebra.specs.declared.algebra.Ext.{Ext}

-- the two whole numbers are equal
abbrev pub is_whole : ℤ → ℤ → Bool
is_whole n other = int_eq n other

-- a slash and the denominator, and nothing for the denominator 1
abbrev pub over_text : ℤ → List ℕ
over_text den = if is_whole den (pos 1) then [] else 47 ∷ signed_decimal den

-- `a`, or `a/b` where b is not 1
abbrev pub fraction_text : Frac → List ℕ
fraction_text q = signed_decimal q.num ++ over_text q.den

abbrev pub is_zero_fraction : Frac → Bool
is_zero_fraction q = is_whole q.num (pos 0)

-- a coefficient before a body that is empty or begins with a star; before a star 1 leaves its digit
-- and the star out, and -1 leaves the sign
abbrev pub product_text : Frac → List ℕ → List ℕ
product_text q [] = fraction_text q
product_text q (star ∷ body) =
    if is_whole q.den (pos 1) && is_whole q.num (pos 1) then body
    else (if is_whole q.den (pos 1) && is_whole q.num (negsuc 0) then 45 ∷ body
    else fraction_text q ++ star ∷ body)

-- a piece of a sum with its sign before it, `+` where it has none
abbrev pub signed_text : List ℕ → List ℕ
signed_text [] = 43 ∷ []
signed_text (b ∷ bs) = if b == 45 then b ∷ bs else 43 ∷ b ∷ bs

-- a piece of a sum: a number, and what stands behind it
abbrev pub Piece : Type 0
Piece = Frac × List ℕ

-- a piece with its sign before it
abbrev pub piece_text : Piece → List ℕ
piece_text p = signed_text (product_text p.0 p.1)

-- the same where 0 is no piece
abbrev pub component_text : Piece → List ℕ
component_text p = if is_zero_fraction p.0 then [] else piece_text p

-- the pieces whose numbers are not 0
abbrev pub without_zeros : List Piece → List Piece
without_zeros ps = filter (λ p. not (is_zero_fraction p.0)) ps

-- the numbers c0 to c5 of c0 + c1*t + c2*t^2 + c3*s + c4*s*t + c5*s*t^2
abbrev pub numbers : Ext Frac → List Frac
numbers e = e.c0 ∷ e.c1 ∷ e.c2 ∷ e.c3 ∷ e.c4 ∷ e.c5 ∷ []

-- what stands behind them
abbrev pub letters : List (List ℕ)
letters = [] ∷ codes "*t" ∷ codes "*t^2" ∷ codes "*s" ∷ codes "*s*t" ∷ codes "*s*t^2" ∷ []

-- the components of an element: its numbers with their letters
abbrev pub components : Ext Frac → List Piece
components e = zip (numbers e) letters

-- those that are not 0, each with its sign before it
unfoldable pub components_text : Ext Frac → List ℕ
components_text e = flat_map component_text (components e)

-- the sum of signed pieces: the first without its plus, and `0` where there is none
abbrev pub without_plus : List ℕ → List ℕ
without_plus [] = 48 ∷ []
without_plus (b ∷ bs) = if b == 43 then bs else b ∷ bs

-- the sum of the components in their order, without those that are 0
unfoldable pub element_text : Ext Frac → List ℕ
element_text e = without_plus (components_text e)

-- a sum of pieces with this text before a body that begins with a star: it stands in parentheses where it is not one piece
abbrev pub sum_before : List Piece → List ℕ → List ℕ → List ℕ
sum_before (p ∷ []) text body = product_text p.0 (p.1 ++ body)
sum_before ps text body = 40 ∷ text ++ 41 ∷ body

-- an element before a body that begins with a star
unfoldable pub scaled_text : Ext Frac → List ℕ → List ℕ
scaled_text e body = sum_before (without_zeros (components e)) (element_text e) body
