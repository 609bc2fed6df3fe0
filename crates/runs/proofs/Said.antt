-- What was said stays said, and so does each part of it.
-- Assumes nothing.
use Rattle.std.proofs.Common.{ℕ, zero, suc, ◌<◌, List, [], ◌∷◌, ◌++◌, take, drop, refl}
use mathlib.Core.List.Memᴰ
use mathlib.Core.List.{Memᴰ}
use Rattle.crew.specs.Messages.{Message, Parcel, foreman_line, to_all}
use Rattle.runs.specs.Crew.{Spoken}
use Rattle.runs.proofs.Lists.{mem_each}

-- what the foreman says to all is said to each
pub said_to_each : (m : ℕ) (x : Message) (said : List Parcel) (j : ℕ) → j < m → Memᴰ (record { from = foreman_line; to = j; message = x }) (to_all m x ++ said)
said_to_each m x said j lt = Memᴰ.append_left said (mem_each (λ k. record { from = foreman_line; to = k; message = x }) m j lt)

-- where more was said, all of it was
spoken_where : (xs ys : List Parcel) → ((p : Parcel) → Memᴰ p xs → Memᴰ p ys) → (ps : List Parcel) → Spoken xs ps → Spoken ys ps
spoken_where xs ys f [] h = tt
spoken_where xs ys f (p ∷ ps) h = (f p h.0, spoken_where xs ys f ps h.1)

pub spoken_later : (ys said ps : List Parcel) → Spoken said ps → Spoken (ys ++ said) ps
spoken_later ys said = spoken_where said (ys ++ said) (λ p. Memᴰ.append_right ys)

pub spoken_all : (ps : List Parcel) → Spoken ps ps
spoken_all [] = tt
spoken_all (p ∷ ps) = (Memᴰ.head refl, spoken_where ps (p ∷ ps) (λ q. Memᴰ.tail) ps (spoken_all ps))

-- what is said now is a part of what was ever said
pub spoken_now : (ps said : List Parcel) → Spoken (ps ++ said) ps
spoken_now ps said = spoken_where ps (ps ++ said) (λ p. Memᴰ.append_left said) ps (spoken_all ps)

pub spoken_both : (said ps qs : List Parcel) → Spoken said ps → Spoken said qs → Spoken said (ps ++ qs)
spoken_both said [] qs h k = k
spoken_both said (p ∷ ps) qs h k = (h.0, spoken_both said ps qs h.1 k)

pub spoken_take : (said : List Parcel) (k : ℕ) (ps : List Parcel) → Spoken said ps → Spoken said (take k ps)
spoken_take said zero ps h = tt
spoken_take said (suc k) [] h = tt
spoken_take said (suc k) (p ∷ ps) h = (h.0, spoken_take said k ps h.1)

pub spoken_drop : (said : List Parcel) (k : ℕ) (ps : List Parcel) → Spoken said ps → Spoken said (drop k ps)
spoken_drop said zero ps h = h
spoken_drop said (suc k) [] h = tt
spoken_drop said (suc k) (p ∷ ps) h = spoken_drop said k ps h.1
