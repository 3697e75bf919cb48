-- Stops of blocks: at the first line, behind a line, in the first of two blocks.
use Rattle.std.proofs.Common.{◌≡◌, ℕ, ◌<◌, ◌≤◌, inl, inr, List, [], ◌∷◌, ◌++◌, length, refl, sym, ap, ◌∙◌, subst, append_assoc, length-append, arith}
use Rattle.std.proofs.lemmas.Bool.{cases_lt}
use Rattle.cert_text.specs.BadText.{IsWholeLines}
use Rattle.cert_law.specs.Unique.{IsSelfEnding}
use Rattle.cert_law.proofs.Cut.{head, same_front}
use Rattle.report_reader.specs.Lines.{IsClean}
use Rattle.report_reader.specs.Blocks.{IsStop, IsHalt}
use Rattle.report_reader.specs.declared.halt.Halt.{Halt}
use Rattle.report_reader.specs.declared.halt.Halt.TheVariants as halts

-- ---- lists

-- of two fronts of one list the shorter is a front of the longer
pub record Goes (a b c d : List ℕ) : Type 0 where
  pub more : List ℕ
  pub long : c ≡ a ++ more
  pub rest : b ≡ more ++ d

pub shorter_front : (a b c d : List ℕ) → a ++ b ≡ c ++ d → length a ≤ length c → Goes a b c d
shorter_front [] b c d e le = record { more = c; long = refl; rest = e }
shorter_front (x ∷ a) b [] d e le = absurd (omega (arith, le))
shorter_front (x ∷ a) b (y ∷ c) d e le =
    let h = head x y (a ++ b) (c ++ d) e in
    let r = shorter_front a b c d h.1 (omega (arith, le)) in
    let long = r.long in
    record { more = r.more; long = cc (h.0, long); rest = r.rest }

-- ---- whole lines

-- one line, with its newline
pub record IsLine (h : List ℕ) : Type 0 where
  pub body : List ℕ
  pub clean : IsClean body
  pub is : h ≡ body ++ 10 ∷ []

pub whole-line : (h : List ℕ) → IsLine h → IsWholeLines h
whole-line h l = inr (l.body, l.is)

pub whole-append : (a b : List ℕ) → IsWholeLines a → IsWholeLines b → IsWholeLines (a ++ b)
whole-append a b wa (inr w) = inr (a ++ w.0, ap (λ (z : List ℕ). a ++ z) w.1 ∙ sym (append_assoc a w.0 (10 ∷ [])))
whole-append a b wa (inl w) = elim wa [
  | inl v ↦ inl (ap (λ (z : List ℕ). z ++ b) v ∙ w)
  | inr v ↦ inr (v.0, ap (λ (z : List ℕ). a ++ z) w ∙ none a ∙ v.1)
]
  where
    none : (z : List ℕ) → z ++ [] ≡ z
    none [] = refl
    none (x ∷ z) = let h = none z in cc h

-- what stands behind whole lines in whole lines
ends_so : (a : List ℕ) (b : ℕ) (bs front : List ℕ) → a ++ b ∷ bs ≡ front ++ 10 ∷ [] → (w : List ℕ) × (b ∷ bs ≡ w ++ 10 ∷ [])
ends_so [] b bs front e = (front, e)
ends_so (x ∷ a) b bs [] e = absurd (more a (head x 10 (a ++ b ∷ bs) [] e).1)
  where
    more : (a : List ℕ) → a ++ b ∷ bs ≡ [] → ⊥
    more [] e = cc
    more (x ∷ a) e = cc
ends_so (x ∷ a) b bs (y ∷ front) e = ends_so a b bs front (head x y (a ++ b ∷ bs) (front ++ 10 ∷ []) e).1

pub whole-rest : (a b : List ℕ) → IsWholeLines (a ++ b) → IsWholeLines b
whole-rest a [] w = inl refl
whole-rest a (b ∷ bs) (inl e) = absurd (some a e)
  where
    some : (a : List ℕ) → a ++ b ∷ bs ≡ [] → ⊥
    some [] e = cc
    some (x ∷ a) e = cc
whole-rest a (b ∷ bs) (inr w) = inr (ends_so a b bs w.0 w.1)

-- whole lines that begin like a line, have it
has_line : (body tail w more : List ℕ) → IsClean body → w ++ 10 ∷ more ≡ body ++ 10 ∷ tail → (u : List ℕ) × (w ++ 10 ∷ [] ≡ body ++ 10 ∷ u)
has_line [] tail [] more clean e = ([], refl)
has_line [] tail (x ∷ w) more clean e = let h = (head x 10 (w ++ 10 ∷ more) tail e).0 in (w ++ 10 ∷ [], cc h)
has_line (b ∷ body) tail [] more clean e = absurd (clean.0 (sym (head 10 b more (body ++ 10 ∷ tail) e).0))
has_line (b ∷ body) tail (x ∷ w) more clean e =
    let h = head x b (w ++ 10 ∷ more) (body ++ 10 ∷ tail) e in
    let r = has_line body tail w more clean.1 h.1 in
    let same = r.1 in
    let first = h.0 in
    (r.0, cc (first, same))

-- the text has a first line, which does not stand at the front of the bytes
pub record IsApart (text bytes : List ℕ) : Type 0 where
  pub first : List ℕ
  pub tail : List ℕ
  pub line : IsLine first
  pub is : text ≡ first ++ tail
  pub never : (more : List ℕ) → first ++ more ≡ bytes → ⊥

-- so no whole lines begin both
pub apart_fronts : (text bytes front more next : List ℕ) → IsApart text bytes → IsWholeLines front → bytes ≡ front ++ more → text ≡ front ++ next → 0 < length front → ⊥
apart_fronts text bytes front more next a (inl e) p q lt = let z = ap length e in omega (arith, z, lt)
apart_fronts text bytes front more next a (inr w) p q lt =
    let whole : front ++ next ≡ w.0 ++ (10 ∷ next) = ap (λ (z : List ℕ). z ++ next) w.1 ∙ append_assoc w.0 (10 ∷ []) next in
    let own : text ≡ a.line.body ++ (10 ∷ a.tail) = a.is ∙ ap (λ (z : List ℕ). z ++ a.tail) a.line.is ∙ append_assoc a.line.body (10 ∷ []) a.tail in
    let r = has_line a.line.body a.tail w.0 next a.line.clean (sym whole ∙ sym q ∙ own) in
    let same : front ≡ a.first ++ r.0 = w.1 ∙ r.1 ∙ sym (append_assoc a.line.body (10 ∷ []) r.0) ∙ ap (λ (z : List ℕ). z ++ r.0) (sym a.line.is) in
    a.never (r.0 ++ more) (sym (append_assoc a.first r.0 more) ∙ ap (λ (z : List ℕ). z ++ more) (sym same) ∙ sym p)

-- ---- stops

-- at the first line: no valid text has a first line that stands at the front
pub stop_here : {A : Type 0} (valid : A → Type 0) (text : A → List ℕ) (bytes : List ℕ) (v : A) → valid v → ((w : A) → valid w → IsApart (text w) bytes) → IsStop valid text bytes (length bytes)
stop_here valid text bytes v ok apart = record {
  seen = [];
  rest = bytes;
  parted = refl;
  long = refl;
  lines = inl refl;
  begins = (v, ok, (text v, refl));
  none = λ w more is e. let a = apart w is in a.never (a.tail ++ more) (sym (append_assoc a.first a.tail more) ∙ ap (λ (z : List ℕ). z ++ more) (sym a.is) ∙ e);
  longest = λ w front more next is lines p q lt. apart_fronts (text w) bytes front more next (apart w is) lines p q lt;
}

-- behind lines that were read: the rest stops, and all valid texts that begin with these lines go on so
pub stop_behind : {A B : Type 0} (valid : A → Type 0) (text : A → List ℕ) (later : B → Type 0) (others : B → List ℕ) (bytes lines rest : List ℕ) (left : ℕ)
    → IsWholeLines lines → lines ++ rest ≡ bytes
    → ((b : B) → later b → (a : A) × valid a × (text a ≡ lines ++ others b))
    → ((a : A) (x y : List ℕ) → valid a → text a ++ x ≡ lines ++ y → (b : B) × later b × (text a ≡ lines ++ others b))
    → IsStop later others rest left → IsStop valid text bytes left
stop_behind valid text later others bytes lines rest left whole e into out s =
    let b = s.begins in
    let a = into b.0 b.1 in
    record {
      seen = lines ++ s.seen;
      rest = s.rest;
      parted = sym e ∙ ap (λ (z : List ℕ). lines ++ z) s.parted ∙ sym (append_assoc lines s.seen s.rest);
      long = s.long;
      lines = whole-append lines s.seen whole s.lines;
      begins = (a.0, a.1, (b.2.0, a.2 ∙ ap (λ (z : List ℕ). lines ++ z) b.2.1 ∙ sym (append_assoc lines s.seen b.2.0)));
      none = λ w more ok f.
          let r = out w more rest ok (f ∙ sym e) in
          s.none r.0 more r.1 (same_front lines (others r.0 ++ more) rest (sym (append_assoc lines (others r.0) more) ∙ ap (λ (z : List ℕ). z ++ more) (sym r.2) ∙ f ∙ sym e));
      longest = λ w front more next ok is p q lt.
          let size = length-append lines s.seen in
          let g = shorter_front lines rest front more (e ∙ p) (omega (arith, size, lt)) in
          let again : text w ++ [] ≡ lines ++ (g.more ++ (next ++ [])) = ap (λ (z : List ℕ). z ++ []) q ∙ ap (λ (z : List ℕ). (z ++ next) ++ []) g.long ∙ append_assoc (lines ++ g.more) next [] ∙ append_assoc lines g.more (next ++ []) in
          let r = out w [] (g.more ++ (next ++ [])) ok again in
          let go : others r.0 ≡ g.more ++ next = same_front lines (others r.0) (g.more ++ next) (sym r.2 ∙ q ∙ ap (λ (z : List ℕ). z ++ next) g.long ∙ append_assoc lines g.more next) in
          let sizes = length-append lines g.more in
          let front_size = ap length g.long in
          s.longest r.0 g.more more next r.1 (whole-rest lines g.more (subst IsWholeLines g.long is)) g.rest go (omega (arith, size, lt, sizes, front_size));
    }

-- in the first of two blocks: each first block goes on, and each whole has a first block
pub stop_before : {A B : Type 0} (valid : A → Type 0) (text : A → List ℕ) (whole : B → Type 0) (texts : B → List ℕ) (bytes : List ℕ) (left : ℕ)
    → ((a : A) → valid a → (b : B) × whole b × ((more : List ℕ) × (texts b ≡ text a ++ more)))
    → ((b : B) → whole b → (a : A) × valid a × ((more : List ℕ) × (texts b ≡ text a ++ more)))
    → IsStop valid text bytes left → IsStop whole texts bytes left
stop_before valid text whole texts bytes left onto from s =
    let b = s.begins in
    let w = onto b.0 b.1 in
    record {
      seen = s.seen;
      rest = s.rest;
      parted = s.parted;
      long = s.long;
      lines = s.lines;
      begins = (w.0, w.1, (b.2.0 ++ w.2.0, w.2.1 ∙ ap (λ (z : List ℕ). z ++ w.2.0) b.2.1 ∙ append_assoc s.seen b.2.0 w.2.0));
      none = λ v more ok e.
          let a = from v ok in
          s.none a.0 (a.2.0 ++ more) a.1 (sym (append_assoc (text a.0) a.2.0 more) ∙ ap (λ (z : List ℕ). z ++ more) (sym a.2.1) ∙ e);
      longest = λ v front more next ok is p q lt.
          let a = from v ok in
          in_first (text a.0) a.2.0 front next (λ g. s.longest a.0 front more g.more a.1 is p g.long lt)
          (λ g. s.none a.0 (g.more ++ more) a.1 (sym (append_assoc (text a.0) g.more more) ∙ ap (λ (z : List ℕ). z ++ more) (sym g.long) ∙ sym p)) (sym a.2.1 ∙ q);
    }
  where
    in_first : (t u front next : List ℕ) → (Goes front next t u → ⊥) → (Goes t u front next → ⊥) → t ++ u ≡ front ++ next → ⊥
    in_first t u front next short long e = elim (cases_lt (length t) (length front)) [
      | inl lt ↦ long (shorter_front t u front next e (omega (arith, lt)))
      | inr le ↦ short (shorter_front front next t u (sym e) le)
    ]

-- ---- two blocks one after the other

-- c's text is that of an a, which is told from it, and behind it that of a b; each a has a b
pub record IsPair {A B C : Type 0} (first : A → Type 0) (front : A → List ℕ) (second : A → B → Type 0) (back : B → List ℕ) (valid : C → Type 0) (text : C → List ℕ) : Type 0 where
  pub lines : (a : A) → first a → IsWholeLines (front a)
  pub told : IsSelfEnding first front
  pub some : (a : A) → first a → (b : B) × second a b
  pub join : (a : A) (b : B) → first a → second a b → (c : C) × valid c × (text c ≡ front a ++ back b)
  pub part : (c : C) → valid c → (a : A) × first a × ((b : B) × second a b × (text c ≡ front a ++ back b))

pub pair_first : {A B C : Type 0} (first : A → Type 0) (front : A → List ℕ) (second : A → B → Type 0) (back : B → List ℕ) (valid : C → Type 0) (text : C → List ℕ) (bytes : List ℕ) (left : ℕ)
    → IsPair first front second back valid text → IsStop first front bytes left → IsStop valid text bytes left
pair_first first front second back valid text bytes left p s =
    stop_before first front valid text bytes left
    (λ a ok. let b = p.some a ok in let c = p.join a b.0 ok b.1 in (c.0, c.1, (back b.0, c.2)))
    (λ c ok. let a = p.part c ok in (a.0, a.1, (back a.2.0, a.2.2))) s

pub pair_second : {A B C : Type 0} (first : A → Type 0) (front : A → List ℕ) (second : A → B → Type 0) (back : B → List ℕ) (valid : C → Type 0) (text : C → List ℕ) (a : A) (bytes rest : List ℕ) (left : ℕ)
    → IsPair first front second back valid text → first a → front a ++ rest ≡ bytes → IsStop (second a) back rest left → IsStop valid text bytes left
pair_second {A} {B} {C} first front second back valid text a bytes rest left p ok e s =
    stop_behind valid text (second a) back bytes (front a) rest left (p.lines a ok) e
    (λ b is. p.join a b ok is)
    (λ c x y is f.
    let h = p.part c is in
    let whole = p.told.one h.0 a (back h.2.0 ++ x) y h.1 ok (sym (append_assoc (front h.0) (back h.2.0) x) ∙ ap (λ (z : List ℕ). z ++ x) (sym h.2.2) ∙ f) in
    (h.2.0, subst (λ (z : A). second z h.2.0) whole.0 h.2.1, h.2.2 ∙ ap (λ (z : A). front z ++ back h.2.0) whole.0)) s

-- ---- halts

pub halt_map : {A B : Type 0} (first : A → Type 0) (front : A → List ℕ) (some : List ℕ) (valid : B → Type 0) (text : B → List ℕ) (bytes : List ℕ) → ((left : ℕ) → IsStop first front some left → IsStop valid text bytes left)
    → (h : Halt) → IsHalt first front some h → IsHalt valid text bytes h
halt_map first front some valid text bytes map (halts.Stop left) s = map left s
halt_map first front some valid text bytes map halts.NoMemory s = tt
