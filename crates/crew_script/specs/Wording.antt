-- What is printed of what should have stood there.
-- Assumes nothing.
use Rattle.std.specs.Prelude.{ℕ, List, codes}
use Rattle.script.specs.Wording as script
use Rattle.script.specs.declared.complaints.Expected as script_expected
use Rattle.script.specs.declared.complaints.Expected.TheVariants as script_variants
use Rattle.crew_script.specs.declared.complaints.Expected.{Expected}
use Rattle.crew_script.specs.declared.complaints.Expected.TheVariants.{FirstWord, Lone, WorkerCount, CrewOnce, OneRun, CrewLine, OwnerSettings, TickSettings, UpSettings, CutSettings, NoWord, LateSettings, SeedSettings, UntilSettings, Machine, RunLine}

-- more first words are there with crews
abbrev pub with_crews : script_expected.Expected → Expected
with_crews script_variants.FirstWord = FirstWord
with_crews e = Lone e

abbrev pub wording : Expected → List ℕ
wording FirstWord = codes "'places', 'plan' or 'alone', or with a crew 'workers', 'owner' or an event"
wording (Lone e) = script.wording e
wording WorkerCount = codes "a number of workers from 1 to 8 and no other word"
wording CrewOnce = codes "'workers' only once"
wording OneRun = codes "one of 'alone' and 'workers', not both"
wording CrewLine = codes "this only where a line 'workers M' is"
wording OwnerSettings = codes "'owner FIRST WORKER', FIRST 0 at first, then rising and below the places, WORKER below the workers"
wording TickSettings = codes "'tick I', I a worker or 64"
wording UpSettings = codes "'up I', I a worker or 64"
wording CutSettings = codes "'cut I' or 'cut I B', I a worker or 64, B from 0 to 4294967295"
wording NoWord = codes "no word after 'give', 'lose' or 'twice'"
wording LateSettings = codes "'late K', K from 0 to 4294967295"
wording SeedSettings = codes "'seed S T', S and T from 0 to 4294967295"
wording UntilSettings = codes "'until over T', T from 0 to 4294967295"
wording Machine = codes "a machine that is there: a worker below the workers, or 64"
wording RunLine = codes "a line 'alone R' or 'workers M'"
