use Rattle.std.proofs.Common.{◌≡◌, ℕ, List, Option, None, Some, Result, Ok, Err, refl, sym, ap}
use Rattle.std.specs.Prelude.{option_map}
use Rattle.casper_trail.specs.declared.item.Item.{Item}
use Rattle.casper_space.specs.declared.answer.Answer.{Answer}
use Rattle.casper_disk.specs.Disk.{none_loose}
use Rattle.casper_disk.specs.Place.{Place, Missing, Out, Standing}
use Rattle.casper_disk.specs.Vault.{Saved}
use Rattle.casper_root.specs.declared.fault.OpenFault.{OpenFault}
use Rattle.casper_report.specs.declared.refusal.Refusal.TheVariants as refusal
use Rattle.casper_map.specs.Mapped.{page_count}
use Rattle.casper_map.specs.Planned.{Planned}
use Rattle.casper_map.specs.Room.{room_of}
use Rattle.casper_model.specs.Vault.{VaultState}
use Rattle.casper_sessions.specs.Chain.{Limits, opened}
use Rattle.casper_sessions.specs.Moments.{moment_of}
use Rattle.casper_sessions.specs.StopLaws.{IsOpenable}
use Rattle.casper_sessions.specs.Within.{IsLeftOf}
use Rattle.casper_stable.specs.Kept.{Kept, changes_written, doubt_of, image_of}
use Rattle.casper_stable.specs.Leaves.{Leaves}
use Rattle.casper_stable.specs.Opened.{shown, AddsNoWrites}
use Rattle.casper_stable.specs.Opens.{Store, opens}
use Rattle.casper_stable.specs.VaultLaws.{image_count, page_filled}
use Rattle.casper_stores.specs.declared.fault.StoreFault.{StoreFault}
use Rattle.casper_stores.specs.declared.fault.StoreFault.TheVariants as fault
use Rattle.casper_stores.specs.Places.{DiskGoesOn, SameContent}
use Rattle.casper_stores.specs.Stores.{store_under, store_or_fault}
use Rattle.casper_app.specs.declared.command.Opening.{Opening}
use Rattle.casper_app.specs.declared.end.End.{End}
use Rattle.casper_app.specs.declared.outlet.Outlet.{Outlet}
use Rattle.casper_app.specs.declared.schedule.Asked.{Asked}
use Rattle.casper_app.specs.Chain.{AllAskOfClients}
use Rattle.casper_app.specs.Comes.{ComesOver}
use Rattle.casper_app.specs.Ending.{RunsReplay}
use Rattle.casper_app.specs.Leaving.{IsLeftAmong}
use Rattle.casper_app.specs.Play.{begun}
use Rattle.casper_app.specs.Shelving.{Shelving}
use Rattle.casper_app.specs.StoreRuns.{ComesOnDisk, RunsOpened, session_over, vault_of}
use Rattle.casper_app.proofs.LeavingLemmas.{array_at, left_is_array, opens_each}
use Rattle.casper_app.proofs.RunLemmas.{runs_as}

-- What a replay over a store comes to on its disk.

-- the vault of a store without a doubt is as its blocks show
pub told_is : {D : Type 0} (content : D → List (List ℕ)) (kept : Kept D) → kept.doubt ≡ None
    → ◌≡◌ {A = VaultState} (record { image = image_of content kept; version = kept.body.seq; room = Some (room_of kept.held); doubt = doubt_of content kept }) (vault_of (shown content kept))
told_is content kept sure =
    ap with_doubt sure
  where
    with_doubt : Option Planned → VaultState
    with_doubt doubt = record { image = image_of content kept; version = kept.body.seq; room = Some (room_of kept.held); doubt = option_map (changes_written (content kept.disk)) doubt }

-- and a session may begin over it
pub store_openable : {D : Type 0} (content : D → List (List ℕ)) (kept : Kept D) → IsOpenable (page_count (shown content kept).held) (vault_of (shown content kept))
store_openable content kept = record {
  shape = record {
    count = sym (image_count (content kept.disk) kept.held);
    words = λ page below. page_filled (content kept.disk) kept.held page below;
  };
  sure = refl;
}

-- where what the vault leaves is what the images of its disk open to, each of them opens
pub runs_on_disk : {V D : Type 0} (vault_moment : V → ℕ) (vault_since : V → ℕ → Saved → Type 0) (vault_now : V → Saved → Type 0) (before after : V)
    (moment : D → ℕ) (since : D → ℕ → List (List ℕ) → Type 0) (now : D → List (List ℕ) → Type 0) (first ended : D)
    (limits : Limits) (vault : VaultState) → IsOpenable limits.pages vault
    → ((saved : Saved) → Leaves (since ended (moment first)) saved → vault_since after (vault_moment before) saved)
    → ((saved : Saved) → Leaves (now ended) saved → vault_now after saved)
    → (outlet : Outlet) (faults faults_after : ℕ) (left left_after taken taken_after : Option (List ℕ)) (answers : List Answer) (items : List Item) (last : End)
    → RunsReplay (ComesOver vault_moment vault_since vault_now before after limits.entries (opened limits vault)) outlet faults faults_after left left_after taken taken_after answers items last
    → RunsReplay (ComesOnDisk moment since now first ended limits.entries (opened limits vault)) outlet faults faults_after left left_after taken taken_after answers items last
runs_on_disk vault_moment vault_since vault_now before after moment since now first ended limits vault openable by_since by_now outlet faults faults_after left left_after taken taken_after answers items last run =
    runs_as (ComesOver vault_moment vault_since vault_now before after limits.entries (opened limits vault)) (ComesOnDisk moment since now first ended limits.entries (opened limits vault))
    outlet faults faults_after left left_after taken taken_after answers items last
    (λ (lines : ℕ) (said : End) (asked : List Asked) (given : List Answer) (recorded : List Item) (named : AllAskOfClients asked) over. record {
      comes = over.comes;
      images = opens_each limits.pages (IsLeftAmong limits.entries (begun (opened limits vault)) asked given) (since ended (moment first))
          (λ array there. left_is_array limits vault asked given array openable named there) (λ saved there. over.images.agrees saved (by_since saved there));
      left = opens_each limits.pages (IsLeftOf over.comes.last.state (moment_of over.comes.last.state)) (now ended)
          (λ array there. array_at limits vault openable asked given over.comes.last named over.comes.plays (moment_of over.comes.last.state) array there)
          (λ saved there. over.left saved (by_now saved there));
    })
    run

-- what stands under a name of which a store is told
stood_under : {D : Type 0} (content : D → List (List ℕ)) (stood : D) (store : Store) → store_under content (Standing stood) ≡ Ok store → opens (content stood) ≡ Ok store
stood_under content stood store is = by_found (opens (content stood)) is
  where
    by_found : (found : Result Store OpenFault) → store_or_fault found ≡ Ok store → found ≡ Ok store
    by_found (Ok other) same = cc
    by_found (Err refusal) same = cc

-- the store was opened, and this is what became of it
pub runs_opened : {H D : Type 0} (shelving : Shelving H D) (name : List ℕ) (opening : Opening) (outlet : Outlet) (shelf shelf_after : H) (left left_after taken taken_after : Option (List ℕ)) (answers : List Answer) (items : List Item) (last : End)
    (kept : Kept D) (ended : D)
    → store_under shelving.content (shelving.place shelf name) ≡ Ok (shown shelving.content kept)
    → DiskGoesOn (SameContent shelving.content) (shelving.place shelf name) (Standing kept.disk)
    → DiskGoesOn (AddsNoWrites shelving.content shelving.loose shelving.moment shelving.images_since) (shelving.place shelf name) (Standing kept.disk)
    → shelving.loose kept.disk ≡ none_loose → shelving.place shelf_after name ≡ Standing ended
    → RunsReplay (ComesOnDisk shelving.moment shelving.images_since shelving.images_now kept.disk ended opening.entries (session_over (shown shelving.content kept) opening)) outlet
    (shelving.disk_faults kept.disk) (shelving.disk_faults ended) left left_after taken taken_after answers items last
    → RunsOpened shelving name opening outlet shelf shelf_after left left_after taken taken_after answers items last
runs_opened {H} {D} shelving name opening outlet shelf shelf_after left left_after taken taken_after answers items last kept ended found same unwritten settled stands run =
    by_place (shelving.place shelf name) refl found same unwritten
  where
    by_place : (place : Place D) → shelving.place shelf name ≡ place → store_under shelving.content place ≡ Ok (shown shelving.content kept)
        → DiskGoesOn (SameContent shelving.content) place (Standing kept.disk)
        → DiskGoesOn (AddsNoWrites shelving.content shelving.loose shelving.moment shelving.images_since) place (Standing kept.disk)
        → RunsOpened shelving name opening outlet shelf shelf_after left left_after taken taken_after answers items last
    by_place Missing is none same unwritten = absurd (let no : ◌≡◌ {A = Result Store StoreFault} (Err (fault.Refused refusal.NoSuch)) (Ok (shown shelving.content kept)) = none in cc)
    by_place Out is none same unwritten = absurd (let no : ◌≡◌ {A = Result Store StoreFault} (Err (fault.Refused refusal.NoSuch)) (Ok (shown shelving.content kept)) = none in cc)
    by_place (Standing stood) is found same unwritten = record {
      stood = stood;
      stood_there = is;
      store = shown shelving.content kept;
      opens_to = stood_under shelving.content stood (shown shelving.content kept) found;
      opened = kept.disk;
      content = same;
      settled = settled;
      unwritten = unwritten;
      ended = ended;
      stands_there = stands;
      run = run;
    }
