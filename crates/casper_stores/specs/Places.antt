use Rattle.std.specs.Prelude.{◌≡◌, List, ℕ, Result, Ok, Err, ⊤}
use Rattle.casper_disk.specs.Place.{Place, Missing, Out, Standing}

-- a disk stands there, and meets a fact
abbrev pub HasDisk : {D : Type 0} → (D → Type 0) → Place D → Type 0
HasDisk fact Missing = ⊥
HasDisk fact Out = ⊥
HasDisk fact (Standing disk) = fact disk

-- where a disk stood, one stands that follows from it
abbrev pub DiskGoesOn : {D : Type 0} → (D → D → Type 0) → Place D → Place D → Type 0
DiskGoesOn follows Missing later = ⊤
DiskGoesOn follows Out later = ⊤
DiskGoesOn follows (Standing disk) later = HasDisk (follows disk) later

-- where the disk of an opened store stands: with the store, or where it was refused, at its place
abbrev pub place_held : {S E D : Type 0} → (S → D) → Result S E → Place D → Place D
place_held disk_of (Ok store) place = Standing (disk_of store)
place_held disk_of (Err fault) place = place

-- one disk has the content of another
abbrev pub SameContent : {D : Type 0} → (D → List (List ℕ)) → D → D → Type 0
SameContent content disk after = content after ≡ content disk
