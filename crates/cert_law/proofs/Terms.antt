-- A term of a polynomial is one lump.
use Rattle.std.proofs.Common.{◌≡◌, ℕ, List, [], ◌∷◌, ◌++◌, refl}
use Rattle.cert_law.specs.Fields.{Element}
use Rattle.poly_text.specs.Numbers.{Piece, components, element_text, scaled_text, signed_text, sum_before, without_zeros}
use Rattle.cert_law.proofs.Lumps.{Lump, Simple, Bracketed, lump_text}

-- one piece with a body behind it, or an element in parentheses
abbrev pub lump_by : List Piece → Element → List ℕ → Lump
lump_by [] e body = Bracketed e body
lump_by (p ∷ []) e body = Simple p.0 (p.1 ++ body)
lump_by (p ∷ q ∷ ps) e body = Bracketed e body

scaled_by : (ps : List Piece) (e : Element) (body : List ℕ) → signed_text (sum_before ps (element_text e) body) ≡ lump_text (lump_by ps e body)
scaled_by [] e body = refl
scaled_by (p ∷ []) e body = refl
scaled_by (p ∷ q ∷ ps) e body = refl

pub scaled_is : (e : Element) (body : List ℕ) → signed_text (scaled_text e body) ≡ lump_text (lump_by (without_zeros (components e)) e body)
unfolding scaled_text
scaled_is e body = scaled_by (without_zeros (components e)) e body
