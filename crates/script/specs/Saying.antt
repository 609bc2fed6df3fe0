-- What the words of a line say.
-- Assumes nothing.
use Rattle.std.specs.Prelude.{ℕ, cond, List, [], ◌∷◌, Some, None, Ok, Err, codes, Option, Result}
use Rattle.std.specs.Str.{bytes_eq}
use Rattle.script.specs.declared.settings.Choice.{Choice}
use Rattle.script.specs.declared.settings.Choice.TheVariants.{Sum, Echo, Scramble, Grid}
use Rattle.script.specs.declared.complaints.Expected.{Expected}
use Rattle.script.specs.declared.complaints.Expected.TheVariants.{PlaceCount, PlanName, NoSettings, ScrambleSettings, GridSettings, RoundCount}
use Rattle.script.specs.declared.statements.Statement.{Statement}
use Rattle.script.specs.declared.statements.Statement.TheVariants.{Nothing, Unknown, Places, Plan, Alone}
use Rattle.script.specs.Text.{number_in, one_number, words_of}

-- what has no settings
abbrev pub bare_of : {X : Type 0} → X → List (List ℕ) → Option X
bare_of x [] = Some x
bare_of x (w ∷ ws) = None

abbrev pub scramble_with : Option ℕ → Option Choice
scramble_with None = None
scramble_with (Some l) = Some (Scramble l)

abbrev pub grid_with : Option ℕ → Option ℕ → Option Choice
grid_with None l = None
grid_with (Some w) None = None
grid_with (Some w) (Some l) = Some (Grid w l)

abbrev pub grid_of : List (List ℕ) → Option Choice
grid_of [] = None
grid_of (w ∷ ws) = grid_with (number_in 1 1048576 w) (one_number 0 4294967295 ws)

abbrev pub or_else : {X E : Type 0} → E → Option X → Result X E
or_else e None = Err e
or_else e (Some x) = Ok x

-- the words after `plan`
abbrev pub plan_of : List (List ℕ) → Result Choice Expected
plan_of [] = Err PlanName
plan_of (w ∷ ws) =
    cond (bytes_eq w (codes "sum")) (or_else NoSettings (bare_of Sum ws))
    (cond (bytes_eq w (codes "echo")) (or_else NoSettings (bare_of Echo ws))
    (cond (bytes_eq w (codes "scramble")) (or_else ScrambleSettings (scramble_with (one_number 0 4294967295 ws)))
    (cond (bytes_eq w (codes "grid")) (or_else GridSettings (grid_of ws))
    (Err PlanName))))

-- the words of a line
abbrev pub statement_of : List (List ℕ) → Statement
statement_of [] = Nothing
statement_of (w ∷ ws) =
    cond (bytes_eq w (codes "places")) (Places (or_else PlaceCount (one_number 0 1048576 ws)))
    (cond (bytes_eq w (codes "plan")) (Plan (plan_of ws))
    (cond (bytes_eq w (codes "alone")) (Alone (or_else RoundCount (one_number 0 2147483647 ws)))
    Unknown))

abbrev pub said_in : List ℕ → Statement
said_in l = statement_of (words_of l)
