-- The bytes of a line that was handed out, and the report of one that is too long.
use Rattle.cert_text.specs.Text.{report_text}
use Rattle.cert_text.specs.declared.report.Report.TheVariants as reports
use Rattle.cert_text.specs.declared.report.Report.{Report}
use Rattle.germ_cli.specs.Answers.{IsAnswerText}
use Rattle.line_io.specs.LineSoFar.{IsUnbroken}
use Rattle.determinator.specs.Lines.{IsAnswer}
use Rattle.std.proofs.Common.{◌≡◌, ℕ, suc, Bool, true, false, not, List, [], ◌∷◌, get_or, Fits, w8, refl, lt-ltb}
use Rattle.std.proofs.lemmas.Bool.{ne_eqb}
use Rattle.std.specs.List.{list_all}
use Rattle.std.specs.Prelude.{◌&&◌, ◌==◌, nat_lt, Result, Ok, Err, IfOk}

both : (a b : Bool) → a ≡ true → b ≡ true → (a && b) ≡ true
both true b e h = h
both false b e h = absurd cc

not_of : (t : Bool) → t ≡ false → not t ≡ true
not_of true e = absurd cc
not_of false e = refl

-- bytes without newline, each below 256
pub plain : (line : List ℕ) → ((i : ℕ) → Fits w8 (get_or line i 0)) → IsUnbroken line → list_all (λ b. nat_lt b 256 && not (b == 10)) line ≡ true
plain [] fits unbroken = refl
plain (b ∷ bs) fits unbroken =
    both (nat_lt b 256 && not (b == 10)) (list_all (λ c. nat_lt c 256 && not (c == 10)) bs) (both (nat_lt b 256) (not (b == 10)) (lt-ltb b 256 (fits 0).fits) (not_of (b == 10) (ne_eqb b 10 unbroken.0)))
    (plain bs (λ i. fits (suc i)) unbroken.1)

-- what was written for an answer is its text
pub text_of : {E T : Type 0} (items : T → List ℕ) (limit : ℕ) (line : List ℕ) (report : Report) (result : Result T E) → IsAnswer limit line report → IfOk result (λ text. items text ≡ report_text report)
    → IfOk result (λ text. IsAnswerText limit line (items text))
text_of items limit line report (Ok text) answer h = record { report = report; answer = answer; text_is = h }
text_of items limit line report (Err e) answer h = tt
