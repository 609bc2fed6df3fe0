-- What is printed of what should have stood there.
-- Assumes nothing.
use Rattle.std.specs.Prelude.{ℕ, List, codes}
use Rattle.script.specs.declared.complaints.Expected.{Expected}
use Rattle.script.specs.declared.complaints.Expected.TheVariants.{FirstWord, PlaceCount, PlanName, NoSettings, ScrambleSettings, GridSettings, RoundCount, Once, PlacesLine, PlanLine, AloneLine}

abbrev pub wording : Expected → List ℕ
wording FirstWord = codes "'places', 'plan' or 'alone'"
wording PlaceCount = codes "a number of places from 0 to 1048576 and no other word"
wording PlanName = codes "a plan: sum, echo, scramble L or grid W L"
wording NoSettings = codes "no word after the plan's name"
wording ScrambleSettings = codes "'scramble L', L from 0 to 4294967295"
wording GridSettings = codes "'grid W L', W from 1 to 1048576, L from 0 to 4294967295"
wording RoundCount = codes "a number of rounds from 0 to 2147483647 and no other word"
wording Once = codes "each of 'places', 'plan' and 'alone' only once"
wording PlacesLine = codes "a line 'places N'"
wording PlanLine = codes "a line 'plan NAME'"
wording AloneLine = codes "a line 'alone R'"
