use Rattle.std.specs.Prelude.{◌≡◌, ◌⊎◌, ◌↔◌, ◌≤◌, ℕ, List, [], Option, Some, None, Result, Ok, Err, IsTrue, IsFalse, IsErrOf, IsOkAnd, IfOk, OnOk}
use Rattle.casper_words.specs.Count.{FaultCountRose}
use Rattle.casper_trail.specs.declared.item.Item.{Item}
use Rattle.casper_disk.specs.Disk.{none_loose}
use Rattle.casper_disk.specs.Handed.{faults_since, faults_with}
use Rattle.casper_disk.specs.Place.{Standing}
use Rattle.casper_root.specs.Opening.{are_sizes}
use Rattle.casper_map.specs.Mapped.{page_count}
use Rattle.casper_map.specs.Room.{room_of}
use Rattle.casper_model.specs.State.{State, start}
use Rattle.casper_model.specs.Vault.{VaultState}
use Rattle.casper_report.specs.declared.refusal.Refusal.{Refusal}
use Rattle.casper_report.specs.declared.refusal.Refusal.TheVariants as refusal
use Rattle.casper_sessions.specs.Moments.{moment_of}
use Rattle.casper_sessions.specs.Within.{IsLeftOf}
use Rattle.casper_space.specs.declared.answer.Answer.{Answer}
use Rattle.casper_stable.specs.Formatted.{sizes, new_store}
use Rattle.casper_stable.specs.Opened.{AddsNoWrites}
use Rattle.casper_stable.specs.Opens.{Store, opens}
use Rattle.casper_stores.specs.declared.checking.Checked.{Checked}
use Rattle.casper_stores.specs.declared.fault.StoreFault.{StoreFault}
use Rattle.casper_stores.specs.declared.fault.StoreFault.TheVariants as fault
use Rattle.casper_stores.specs.Places.{HasDisk, DiskGoesOn, SameContent}
use Rattle.casper_stores.specs.Stores.{store_under, format_refusal, checked_of}
use Rattle.casper_app.specs.declared.command.Opening.{Opening}
use Rattle.casper_app.specs.declared.end.End.{End}
use Rattle.casper_app.specs.declared.end.End.TheVariants as end
use Rattle.casper_app.specs.declared.outlet.Outlet.{Outlet}
use Rattle.casper_app.specs.declared.schedule.Asked.{Asked}
use Rattle.casper_app.specs.Comes.{ComesFrom, ComesInShape}
use Rattle.casper_app.specs.Ending.{EndsWith, RunsReplay}
use Rattle.casper_app.specs.Leaving.{IsLeftAmong}
use Rattle.casper_app.specs.Opening.{cause_of_store}
use Rattle.casper_app.specs.Play.{begun}
use Rattle.casper_app.specs.Shelving.{Shelving}

-- What the commands on stores do.

-- nothing was read, answered or recorded
pub record IsUnread (left left_after : Option (List ℕ)) (answers : List Answer) (items : List Item) : Type 0 where
  pub unread : left_after ≡ left
  pub answered : answers ≡ []
  pub recorded : items ≡ []

-- a new store of so many pages and frames was made under a name, or it was not. Sizes out of range are refused before the shelf is asked
pub record IsFormat {H D : Type 0} (shelving : Shelving H D) (name : List ℕ) (pages frames : ℕ) (shelf shelf_after : H) (made : Result (Unit {0}) StoreFault) : Type 0 where
  pub bad_sizes : IsErrOf made (fault.Refused (refusal.BadSize pages frames)) ↔ IsFalse (are_sizes (sizes pages frames))
  pub refused : IsTrue shelving.tells → (why : Refusal) → IsErrOf made (fault.Refused why) ↔ (format_refusal pages frames (shelving.place shelf name) ≡ Some why)
  pub new : IsTrue shelving.tells → OnOk made (store_under shelving.content (shelving.place shelf_after name) ≡ Ok (new_store (sizes pages frames)))
  pub settled : IsTrue shelving.tells → OnOk made (HasDisk (λ disk. shelving.loose disk ≡ none_loose) (shelving.place shelf_after name))
  pub kept : IsTrue shelving.tells → (why : Refusal) → IsErrOf made (fault.Refused why) → shelving.place shelf_after name ≡ shelving.place shelf name
  pub counted : IsErrOf made fault.Disk → FaultCountRose (shelving.faults shelf) (shelving.faults shelf_after)

-- the store under a name was opened and closed, and what was found is what its blocks open to; or it was not. Nothing was written
pub record IsCheck {H D : Type 0} (shelving : Shelving H D) (name : List ℕ) (shelf shelf_after : H) (found : Result Checked StoreFault) : Type 0 where
  pub refused : IsTrue shelving.tells → (why : Refusal) → IsErrOf found (fault.Refused why)
      → store_under shelving.content (shelving.place shelf name) ≡ Err (fault.Refused why)
  pub checked : IsTrue shelving.tells → IfOk found (λ told. IsOkAnd (store_under shelving.content (shelving.place shelf name)) (λ store. told ≡ checked_of store))
  pub content : IsTrue shelving.tells → DiskGoesOn (SameContent shelving.content) (shelving.place shelf name) (shelving.place shelf_after name)
  pub images : IsTrue shelving.tells
      → DiskGoesOn (AddsNoWrites shelving.content shelving.loose shelving.moment shelving.images_since) (shelving.place shelf name) (shelving.place shelf_after name)
  pub counted : IsErrOf found fault.Disk → FaultCountRose (shelving.faults shelf) (shelving.faults shelf_after)

-- how a format means to end
abbrev pub end_of_format : ℕ → ℕ → Result (Unit {0}) StoreFault → End
end_of_format pages frames (Ok done) = end.Formatted pages frames
end_of_format pages frames (Err why) = end.Stopped (cause_of_store why)

-- how a check means to end
abbrev pub end_of_check : Result Checked StoreFault → End
end_of_check (Ok found) = end.Checked found
end_of_check (Err why) = end.Stopped (cause_of_store why)

-- a format, and the line that tells how it ended
pub record RunsFormat {H D : Type 0} (shelving : Shelving H D) (name : List ℕ) (pages frames : ℕ) (shelf shelf_after : H) (left left_after taken taken_after : Option (List ℕ)) (answers : List Answer) (items : List Item) (last : End) : Type 0 where
  pub made : Result (Unit {0}) StoreFault
  pub format : IsFormat shelving name pages frames shelf shelf_after made
  pub ends : EndsWith (end_of_format pages frames made) last taken taken_after
  pub idle : IsUnread left left_after answers items

-- a check, and the line that tells what it found
pub record RunsCheck {H D : Type 0} (shelving : Shelving H D) (name : List ℕ) (shelf shelf_after : H) (left left_after taken taken_after : Option (List ℕ)) (answers : List Answer) (items : List Item) (last : End) : Type 0 where
  pub found : Result Checked StoreFault
  pub check : IsCheck shelving name shelf shelf_after found
  pub ends : EndsWith (end_of_check found) last taken taken_after
  pub idle : IsUnread left left_after answers items

-- no session began over the store: it was refused, the shelf or the disk failed, or memory was short. Nothing was written to it
pub record RunsUnopened {H D : Type 0} (shelving : Shelving H D) (name : List ℕ) (shelf shelf_after : H) (left left_after taken taken_after : Option (List ℕ)) (answers : List Answer) (items : List Item) (last : End) : Type 0 where
  pub why : StoreFault
  pub refused : IsTrue shelving.tells → (what : Refusal) → why ≡ fault.Refused what → store_under shelving.content (shelving.place shelf name) ≡ Err why
  pub content : IsTrue shelving.tells → DiskGoesOn (SameContent shelving.content) (shelving.place shelf name) (shelving.place shelf_after name)
  pub images : IsTrue shelving.tells
      → DiskGoesOn (AddsNoWrites shelving.content shelving.loose shelving.moment shelving.images_since) (shelving.place shelf name) (shelving.place shelf_after name)
  pub counted : why ≡ fault.Disk → FaultCountRose (shelving.faults shelf) (shelving.faults shelf_after)
  pub ends : EndsWith (end.Stopped (cause_of_store why)) last taken taken_after
  pub idle : IsUnread left left_after answers items

-- the vault of a store that was opened
abbrev pub vault_of : Store → VaultState
vault_of store = record { image = store.saved.image; version = store.saved.version; room = Some (room_of store.held); doubt = None }

-- a session over it as it begins
abbrev pub session_over : Store → Opening → State
session_over store opening = start (vault_of store) (page_count store.held) opening.entries opening.cache

-- blocks open to pages of which a fact holds
abbrev pub OpensTo : (List (List ℕ) → Type 0) → List (List ℕ) → Type 0
OpensTo fact blocks = IsOkAnd (opens blocks) (λ store. fact store.saved.image)

-- what lines come to over the disk of a store. Each image of it since it was opened opens to pages that a stop in the schedule leaves, and
-- each image now to those that one after the last session leaves
pub record ComesOnDisk {D : Type 0} (moment : D → ℕ) (images_since : D → ℕ → List (List ℕ) → Type 0) (images_now : D → List (List ℕ) → Type 0) (opened ended : D)
    (entries : ℕ) (start : State) (lines : ℕ) (said : End) (asked : List Asked) (given : List Answer) (items : List Item) : Type 0 where
  pub comes : ComesFrom entries start lines said asked given items
  pub images : (blocks : List (List ℕ)) → images_since ended (moment opened) blocks → OpensTo (IsLeftAmong entries (begun start) asked given) blocks
  pub left : (blocks : List (List ℕ)) → images_now ended blocks → OpensTo (IsLeftOf comes.last.state (moment_of comes.last.state)) blocks

-- the store was opened and the lines were replayed over it: the disk as it stood, as the opening left it, and as it stands at the end. As
-- many steps failed by the outside, at most, as the count of the disk's faults tells
pub record RunsOpened {H D : Type 0} (shelving : Shelving H D) (name : List ℕ) (opening : Opening) (outlet : Outlet) (shelf shelf_after : H) (left left_after taken taken_after : Option (List ℕ)) (answers : List Answer) (items : List Item) (last : End) : Type 0 where
  pub stood : D
  pub stood_there : shelving.place shelf name ≡ Standing stood
  pub store : Store
  pub opens_to : opens (shelving.content stood) ≡ Ok store
  pub opened : D
  pub content : shelving.content opened ≡ shelving.content stood
  pub settled : shelving.loose opened ≡ none_loose
  pub unwritten : AddsNoWrites shelving.content shelving.loose shelving.moment shelving.images_since stood opened
  pub ended : D
  pub stands_there : shelving.place shelf_after name ≡ Standing ended
  pub run : RunsReplay (ComesOnDisk shelving.moment shelving.images_since shelving.images_now opened ended opening.entries (session_over store opening)) outlet
      (shelving.disk_faults opened) (shelving.disk_faults ended) left left_after taken taken_after answers items last

-- over any shelf, also one that tells nothing: a session began over some vault. As many steps failed by the outside, at most, as the count
-- of the disk's faults tells, which counts among those of the shelf from the number on that the disk was handed out with
pub record RunsInShape {H D : Type 0} (shelving : Shelving H D) (opening : Opening) (outlet : Outlet) (shelf shelf_after : H) (left left_after taken taken_after : Option (List ℕ)) (answers : List Answer) (items : List Item) (last : End) : Type 0 where
  pub found : VaultState
  pub pages : ℕ
  pub opened : D
  pub ended : D
  pub run : RunsReplay (ComesInShape opening.entries (start found pages opening.entries opening.cache)) outlet (shelving.disk_faults opened) (shelving.disk_faults ended)
      left left_after taken taken_after answers items last
  pub handed : ℕ
  pub not_before : handed ≤ shelving.disk_faults opened
  pub at_open : ℕ
  pub never_fell : shelving.faults shelf ≤ at_open
  pub counted : shelving.faults shelf_after ≡ faults_with at_open (faults_since handed (shelving.disk_faults ended))

-- a replay over the store of a name
abbrev pub RunsOverStore : {H D : Type 0} → Shelving H D → List ℕ → Opening → Outlet → H → H → Option (List ℕ) → Option (List ℕ) → Option (List ℕ) → Option (List ℕ) → List Answer → List Item → End → Type 0
RunsOverStore shelving name opening outlet shelf shelf_after left left_after taken taken_after answers items last =
    RunsUnopened shelving name shelf shelf_after left left_after taken taken_after answers items last
    ⊎ (RunsInShape shelving opening outlet shelf shelf_after left left_after taken taken_after answers items last
    × (IsTrue shelving.tells → RunsOpened shelving name opening outlet shelf shelf_after left left_after taken taken_after answers items last))
