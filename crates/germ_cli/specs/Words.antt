-- What the words after the program's name ask for.
use Rattle.germ_cli.specs.declared.command.Command.TheVariants as commands
use Rattle.germ_cli.specs.declared.command.Command.{Command}
use Rattle.std.specs.Prelude.{◌≡◌, ◌⊎◌, ℕ, ◌≤◌, List, [], ◌∷◌, codes, decimal}

-- an order limit that the word K may name
pub record IsLimit (limit : ℕ) : Type 0 where
  pub low : 3 ≤ limit
  pub high : limit ≤ 16

-- the order limit of a command is one that may be named
abbrev pub IsWithinLimits : Command → Type 0
IsWithinLimits (commands.Classify limit) = IsLimit limit
IsWithinLimits commands.Check = Unit {0}
IsWithinLimits commands.Table = Unit {0}

-- the most bytes of an input of the command
abbrev pub input_limit_of : Command → ℕ
input_limit_of (commands.Classify limit) = 16777216
input_limit_of commands.Check = 268435456
input_limit_of commands.Table = 0

-- the words ask for this command: `classify` up to order 12, or `classify K` up to order K, or `check`, or `table`
abbrev pub AsksFor : List (List ℕ) → Command → Type 0
AsksFor words (commands.Classify limit) =
    ((words ≡ codes "classify" ∷ []) × (limit ≡ 12)) ⊎ ((words ≡ codes "classify" ∷ decimal limit ∷ []) × IsLimit limit)
AsksFor words commands.Check = words ≡ codes "check" ∷ []
AsksFor words commands.Table = words ≡ codes "table" ∷ []

-- the words ask for no command
abbrev pub AskForNothing : List (List ℕ) → Type 0
AskForNothing words = (command : Command) → AsksFor words command → ⊥
