-- From the steps of bytes to those of the line that they spell.
use Rattle.std.proofs.Common.{ℕ, List, map, Ok, Err, sym, ap, ◌∙◌}
use Rattle.std.specs.List.{list_all}
use Rattle.line_syntax.specs.Syntax.{Word}
use Rattle.line_syntax.specs.Grammar.{IsLiteralError, is_small_token}
use Rattle.line_reader.specs.declared.step.Step.{Step}
use Rattle.line_reader.specs.Views.{Reads}
use Rattle.line_reader.specs.Steps.{step_of, HasSteps}
use Rattle.line_reader.specs.Refusals.{IsTokensOf}
use Rattle.line_reader.proofs.Lexed.{line_lexed}

pub with_steps : (bytes : List ℕ) (names : List Word) (steps : List Step) → Reads names bytes → HasSteps names bytes (Ok steps) → IsTokensOf bytes names steps
with_steps bytes names steps r h =
    let same = line_lexed bytes r.0 r.1 in
    record { line = r.0; spells = r.1; small = ap (list_all is_small_token) (sym same) ∙ h.0; names_are = r.2; steps_are = h.1 ∙ ap (map (step_of names)) same }

pub with_large : (bytes : List ℕ) (names : List Word) (n : ℕ) → Reads names bytes → HasSteps names bytes (Err n) → IsLiteralError bytes n
with_large bytes names n r h =
    let same = line_lexed bytes r.0 r.1 in
    record {
      line = r.0;
      is_line = r.1.is_line;
      before = h.before;
      after = h.after;
      digits = h.digits;
      front = h.front;
      rest = h.rest;
      tokens = sym same ∙ h.tokens;
      small = h.small;
      large = h.large;
      bytes_are = h.bytes_are;
      front_spaced = h.front_spaced;
      rest_spaced = h.rest_spaced;
      place = h.place;
    }
