-- What the words of a line say.
-- Assumes nothing.
use Rattle.std.specs.Prelude.{ℕ, cond, List, [], ◌∷◌, Some, None, codes, Option, Result, ◌==◌}
use Rattle.std.specs.Str.{bytes_eq}
use Rattle.script.specs.declared.statements.Statement.TheVariants as script_variants
use Rattle.script.specs.Saying as script
use Rattle.script.specs.Saying.{bare_of, or_else}
use Rattle.script.specs.Text.{number_in, one_number, words_of}
use Rattle.crew_script.specs.declared.settings.Machine.{Machine}
use Rattle.crew_script.specs.declared.settings.Machine.TheVariants.{Worker, Foreman}
use Rattle.crew_script.specs.declared.settings.Span.{Span}
use Rattle.crew_script.specs.declared.settings.Event.{Event}
use Rattle.crew_script.specs.declared.settings.Event.TheVariants.{Tick, Up, Cut, Give, Lose, Twice, Late, Seed, Until}
use Rattle.crew_script.specs.declared.complaints.Expected.{Expected}
use Rattle.crew_script.specs.declared.complaints.Expected.TheVariants.{WorkerCount, OwnerSettings, TickSettings, UpSettings, CutSettings, NoWord, LateSettings, SeedSettings, UntilSettings}
use Rattle.crew_script.specs.declared.statements.Statement.{Statement}
use Rattle.crew_script.specs.declared.statements.Statement.TheVariants.{Lone, Workers, Owner, Happens}

abbrev pub owner_with : Option ℕ → Option ℕ → Option Span
owner_with None w = None
owner_with (Some f) None = None
owner_with (Some f) (Some w) = Some (record { first = f; worker = w })

-- the words after `owner`
abbrev pub owner_of : List (List ℕ) → Option Span
owner_of [] = None
owner_of (w ∷ ws) = owner_with (number_in 0 1048575 w) (one_number 0 7 ws)

-- 64 is the foreman's number
abbrev pub machine_in : Option ℕ → Option Machine
machine_in None = None
machine_in (Some i) = Some (cond (i == 64) Foreman (Worker i))

abbrev pub tick_with : Option Machine → Option Event
tick_with None = None
tick_with (Some i) = Some (Tick i)

abbrev pub up_with : Option Machine → Option Event
up_with None = None
up_with (Some i) = Some (Up i)

abbrev pub cut_with : Option Machine → Option Event
cut_with None = None
cut_with (Some i) = Some (Cut i None)

abbrev pub cut_keeping : Option Machine → Option ℕ → Option Event
cut_keeping None b = None
cut_keeping (Some i) None = None
cut_keeping (Some i) (Some b) = Some (Cut i (Some b))

abbrev pub cut_of : List (List ℕ) → Option Event
cut_of [] = None
cut_of (w ∷ []) = cut_with (machine_in (number_in 0 64 w))
cut_of (w ∷ (v ∷ ws)) = cut_keeping (machine_in (number_in 0 64 w)) (one_number 0 4294967295 (v ∷ ws))

abbrev pub late_with : Option ℕ → Option Event
late_with None = None
late_with (Some k) = Some (Late k)

abbrev pub seed_with : Option ℕ → Option ℕ → Option Event
seed_with None t = None
seed_with (Some s) None = None
seed_with (Some s) (Some t) = Some (Seed s t)

abbrev pub seed_of : List (List ℕ) → Option Event
seed_of [] = None
seed_of (w ∷ ws) = seed_with (number_in 0 4294967295 w) (one_number 0 4294967295 ws)

abbrev pub until_with : Option ℕ → Option Event
until_with None = None
until_with (Some t) = Some (Until t)

abbrev pub until_of : List (List ℕ) → Option Event
until_of [] = None
until_of (w ∷ ws) = cond (bytes_eq w (codes "over")) (until_with (one_number 0 4294967295 ws)) None

-- an event, or what should have stood after its first word; none where that begins no event
abbrev pub event_of : List ℕ → List (List ℕ) → Option (Result Event Expected)
event_of w ws =
    cond (bytes_eq w (codes "tick")) (Some (or_else TickSettings (tick_with (machine_in (one_number 0 64 ws)))))
    (cond (bytes_eq w (codes "up")) (Some (or_else UpSettings (up_with (machine_in (one_number 0 64 ws)))))
    (cond (bytes_eq w (codes "cut")) (Some (or_else CutSettings (cut_of ws)))
    (cond (bytes_eq w (codes "give")) (Some (or_else NoWord (bare_of Give ws)))
    (cond (bytes_eq w (codes "lose")) (Some (or_else NoWord (bare_of Lose ws)))
    (cond (bytes_eq w (codes "twice")) (Some (or_else NoWord (bare_of Twice ws)))
    (cond (bytes_eq w (codes "late")) (Some (or_else LateSettings (late_with (one_number 0 4294967295 ws))))
    (cond (bytes_eq w (codes "seed")) (Some (or_else SeedSettings (seed_of ws)))
    (cond (bytes_eq w (codes "until")) (Some (or_else UntilSettings (until_of ws)))
    None))))))))

-- an event, or else what these words say without crews
abbrev pub otherwise : Option (Result Event Expected) → List (List ℕ) → Statement
otherwise None ws = Lone (script.statement_of ws)
otherwise (Some e) ws = Happens e

-- the words of a line
abbrev pub statement_of : List (List ℕ) → Statement
statement_of [] = Lone script_variants.Nothing
statement_of (w ∷ ws) =
    cond (bytes_eq w (codes "workers")) (Workers (or_else WorkerCount (one_number 1 8 ws)))
    (cond (bytes_eq w (codes "owner")) (Owner (or_else OwnerSettings (owner_of ws)))
    (otherwise (event_of w ws) (w ∷ ws)))

abbrev pub said_in : List ℕ → Statement
said_in l = statement_of (words_of l)
