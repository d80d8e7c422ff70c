use Rattle.std.proofs.Common.{◌≡◌, ◌⊎◌, ◌↔◌, ℕ, List, [], ◌∷◌, Bool, true, false, cond, length, refl, sym, ap, ◌∙◌, ⊎_elim}
use Rattle.std.specs.Prelude.{Option, None, Some, IsSome, IsTrue, nat_lt, option_map, Result, Ok, Err, IsErrOf, IsOkUnless, IfOk, OnOk, OnErr}
use Rattle.casper_space.specs.Changes.{Change, VaultRoom, pages_of, need_of, free_of, with_changes}
use Rattle.casper_disk.specs.declared.vault.CommitFault.{CommitFault}
use Rattle.casper_disk.specs.declared.vault.CommitFault.TheVariants as fault
use Rattle.casper_disk.specs.Vault.{Frames, as_changes, version_after, room_with, is_worn, lacking, changes_in, version_settled, room_settled}
use Rattle.casper_model.specs.declared.outcome.Outcome.{Outcome}
use Rattle.casper_model.specs.declared.outcome.Outcome.TheVariants as outcome
use Rattle.casper_model.specs.Outside.{Outside, NothingFailed, WriteOutFailed, WriteOutDoubted}
use Rattle.casper_model.specs.Vault.{VaultState, Written, made, refused_for_room, refused_at_once, written_with, written_unless, commit, settled_vault, settled_with}
use Rattle.casper_core.specs.WritingOut.{IsCommit, outside_ended}

-- What a vault's commit and settle are to the machine.

-- vaults that tell the same
same_told : (one other : VaultState) → one.image ≡ other.image → one.version ≡ other.version → one.room ≡ other.room → one.doubt ≡ other.doubt → one ≡ other
same_told one other image version room doubt =
    ap (λ pages. record { image = pages; version = one.version; room = one.room; doubt = one.doubt }) image
    ∙ ap (λ (number : ℕ). record { image = other.image; version = number; room = one.room; doubt = one.doubt }) version
    ∙ ap (λ space. record { image = other.image; version = other.version; room = space; doubt = one.doubt }) room
    ∙ ap (λ changes. record { image = other.image; version = other.version; room = other.room; doubt = changes }) doubt

-- the changes that a commit made, or that are in doubt after it
pub record Makes (before : VaultState) (changes : List Change) (after : VaultState) : Type 0 where
  pub version : after.version ≡ version_after changes before.version
  pub image : after.image ≡ with_changes before.image changes
  pub room : after.room ≡ room_with changes before.room
  pub doubt : after.doubt ≡ None

pub record Stays (before after : VaultState) : Type 0 where
  pub version : after.version ≡ before.version
  pub image : after.image ≡ before.image
  pub room : after.room ≡ before.room

-- a refusal for room
abbrev cause_of : Frames → Outcome
cause_of frames = outcome.Full frames.need frames.free

room_refused : (change : Change) (changes : List Change) (room : Option VaultRoom)
    → refused_for_room (pages_of (change ∷ changes)) room ≡ option_map cause_of (lacking (change ∷ changes) room)
room_refused change changes None = refl
room_refused change changes (Some room) = by (nat_lt (free_of room) (need_of room (pages_of (change ∷ changes))))
  where
    by : (short : Bool) → cond short (Some (outcome.Full (need_of room (pages_of (change ∷ changes))) (free_of room))) None
        ≡ option_map cause_of (cond short (Some (record { need = need_of room (pages_of (change ∷ changes)); free = free_of room })) None)
    by true = refl
    by false = refl

not_worn : (before : VaultState) (change : Change) (changes : List Change) → is_worn (change ∷ changes) before.version ≡ false
    → refused_at_once before (pages_of (change ∷ changes)) ≡ option_map cause_of (lacking (change ∷ changes) before.room)
not_worn before change changes is =
    ap (λ worn. cond worn (Some outcome.Worn) (refused_for_room (pages_of (change ∷ changes)) before.room)) is ∙ room_refused change changes before.room

-- a commit that was not refused
used : (before : VaultState) (change : Change) (changes : List Change) (outside : Outside) → is_worn (change ∷ changes) before.version ≡ false
    → lacking (change ∷ changes) before.room ≡ None → commit before (change ∷ changes) outside ≡ written_with before (change ∷ changes) outside
used before change changes outside fresh fits =
    ap (written_unless before (change ∷ changes) outside) (not_worn before change changes fresh ∙ ap (option_map cause_of) fits)

refused : (before : VaultState) (change : Change) (changes : List Change) (outside : Outside) (cause : Outcome)
    → refused_at_once before (pages_of (change ∷ changes)) ≡ Some cause → commit before (change ∷ changes) outside ≡ record { outcome = cause; vault = before }
refused before change changes outside cause is = ap (written_unless before (change ∷ changes) outside) is

by_written : (before after : VaultState) (changes : List Change) (how : Outcome) (done : Written) → commit before changes (outside_ended how) ≡ done → done.outcome ≡ how → done.vault ≡ after
    → IsCommit before changes how after
by_written before after changes how done is ends leaves = record {
  ends = ap (λ (one : Written). one.outcome) is ∙ ends;
  leaves = ap (λ (one : Written). one.vault) is ∙ leaves;
}

pub commit_made : (before after : VaultState) (changes : List Change) (number : ℕ) → before.doubt ≡ None → Makes before changes after → number ≡ after.version
    → is_worn changes before.version ≡ false → lacking changes before.room ≡ None → IsCommit before changes (outcome.Ok number) after
commit_made before after [] number sure makes is fresh fits = record {
  ends = ap outcome.Ok (sym (is ∙ makes.version));
  leaves = same_told before after (sym makes.image) (sym makes.version) (sym makes.room) (sure ∙ sym makes.doubt);
}
commit_made before after (change ∷ changes) number sure makes is fresh fits =
    by_written before after (change ∷ changes) (outcome.Ok number) (written_with before (change ∷ changes) NothingFailed)
    (used before change changes NothingFailed fresh fits) (ap outcome.Ok (sym (is ∙ makes.version)))
    (same_told (made before (change ∷ changes)) after (sym makes.image) (sym makes.version) (sym makes.room) (sym makes.doubt))

-- where nothing was changed
pub unchanged : (before after : VaultState) → before.doubt ≡ None → Stays before after → after.doubt ≡ None → before ≡ after
unchanged before after sure stays none = same_told before after (sym stays.image) (sym stays.version) (sym stays.room) (sure ∙ sym none)

pub commit_worn : (before after : VaultState) (changes : List Change) → before.doubt ≡ None → Stays before after → after.doubt ≡ None → is_worn changes before.version ≡ true
    → IsCommit before changes outcome.Worn after
commit_worn before after [] sure stays none worn = cc
commit_worn before after (change ∷ changes) sure stays none worn =
    by_written before after (change ∷ changes) outcome.Worn (record { outcome = outcome.Worn; vault = before })
    (refused before change changes NothingFailed outcome.Worn
    (ap (λ b. cond b (Some outcome.Worn) (refused_for_room (pages_of (change ∷ changes)) before.room)) worn)) refl (unchanged before after sure stays none)

pub commit_full : (before after : VaultState) (changes : List Change) (frames : Frames) → before.doubt ≡ None → Stays before after → after.doubt ≡ None
    → is_worn changes before.version ≡ false → lacking changes before.room ≡ Some frames → IsCommit before changes (outcome.Full frames.need frames.free) after
commit_full before after [] frames sure stays none fresh lacks = cc
commit_full before after (change ∷ changes) frames sure stays none fresh lacks =
    by_written before after (change ∷ changes) (outcome.Full frames.need frames.free) (record { outcome = outcome.Full frames.need frames.free; vault = before })
    (refused before change changes NothingFailed (outcome.Full frames.need frames.free) (not_worn before change changes fresh ∙ ap (option_map cause_of) lacks)) refl
    (unchanged before after sure stays none)

pub commit_failed : (before after : VaultState) (change : Change) (changes : List Change) → before.doubt ≡ None → Stays before after → after.doubt ≡ None
    → is_worn (change ∷ changes) before.version ≡ false → lacking (change ∷ changes) before.room ≡ None → IsCommit before (change ∷ changes) outcome.Disk after
commit_failed before after change changes sure stays none fresh fits =
    by_written before after (change ∷ changes) outcome.Disk (written_with before (change ∷ changes) WriteOutFailed)
    (used before change changes WriteOutFailed fresh fits) refl (unchanged before after sure stays none)

pub commit_doubted : (before after : VaultState) (change : Change) (changes : List Change) → Stays before after → after.doubt ≡ Some (change ∷ changes)
    → is_worn (change ∷ changes) before.version ≡ false → lacking (change ∷ changes) before.room ≡ None → IsCommit before (change ∷ changes) outcome.Doubt after
commit_doubted before after change changes stays doubted fresh fits =
    by_written before after (change ∷ changes) outcome.Doubt (written_with before (change ∷ changes) WriteOutDoubted)
    (used before change changes WriteOutDoubted fresh fits) refl
    (same_told (record before { doubt = Some (change ∷ changes) }) after (sym stays.image) (sym stays.version) (sym stays.room) (sym doubted))

-- what a vault's commit says of its answer
pub record Ended (result : Result ℕ CommitFault) (before after : VaultState) (pairs : List (ℕ × List ℕ)) : Type 0 where
  pub answer : IfOk result (λ number. number ≡ after.version)
  pub version : OnOk result (after.version ≡ version_after (as_changes pairs) before.version)
  pub image : OnOk result (after.image ≡ with_changes before.image (as_changes pairs))
  pub room : OnOk result (after.room ≡ room_with (as_changes pairs) before.room)
  pub doubtful : IsErrOf result fault.Doubt ↔ IsSome after.doubt
  pub doubt : IsErrOf result fault.Doubt → after.doubt ≡ Some (as_changes pairs)
  pub same_version : OnErr result (after.version ≡ before.version)
  pub same_image : OnErr result (after.image ≡ before.image)
  pub same_room : OnErr result (after.room ≡ before.room)
  pub worn : IsErrOf result fault.Memory ⊎ (IsErrOf result fault.Worn ↔ IsTrue (is_worn (as_changes pairs) before.version))
  pub full : IsErrOf result fault.Memory ⊎ IsErrOf result fault.Worn
      ⊎ ((need free : ℕ) → IsErrOf result (fault.Full need free) ↔ (lacking (as_changes pairs) before.room ≡ Some (record { need = need; free = free })))
  pub unchanged : length pairs ≡ 0 → IsOkUnless result fault.Memory

none_of : {X : Type 0} (found : Option X) → (IsSome found → ⊥) → found ≡ None
none_of None never = refl
none_of (Some x) never = absurd (never refl)

false_of : (b : Bool) → (b ≡ true → ⊥) → b ≡ false
false_of true never = absurd (never refl)
false_of false never = refl

module _ (before after : VaultState) (pairs : List (ℕ × List ℕ)) where
  -- a result that is none of these
  module _ (result : Result ℕ CommitFault) (ended : Ended result before after pairs) (no_memory : result ≡ Err fault.Memory → ⊥) where
    not_doubtful : (result ≡ Err fault.Doubt → ⊥) → after.doubt ≡ None
    not_doubtful never = none_of after.doubt (λ doubted. never (ended.doubtful.1 doubted))

    is_fresh : (result ≡ Err fault.Worn → ⊥) → is_worn (as_changes pairs) before.version ≡ false
    is_fresh never = false_of (is_worn (as_changes pairs) before.version)
        (λ worn. ⊎_elim no_memory (λ (iff : IsErrOf result fault.Worn ↔ IsTrue (is_worn (as_changes pairs) before.version)). never (iff.1 worn)) ended.worn)

    fits_in : (result ≡ Err fault.Worn → ⊥) → ((need free : ℕ) → result ≡ Err (fault.Full need free) → ⊥) → lacking (as_changes pairs) before.room ≡ None
    fits_in fresh never = by (lacking (as_changes pairs) before.room) refl
      where
        by : (lacks : Option Frames) → lacking (as_changes pairs) before.room ≡ lacks → lacks ≡ None
        by None is = refl
        by (Some frames) is =
            ⊎_elim (λ memory. absurd (no_memory memory))
            (λ rest. ⊎_elim (λ worn. absurd (fresh worn))
            (λ (each : (need free : ℕ) → IsErrOf result (fault.Full need free) ↔ (lacking (as_changes pairs) before.room ≡ Some (record { need = need; free = free }))).
            absurd (never frames.need frames.free ((each frames.need frames.free).1 is))) rest)
            ended.full

    lacks_so : (need free : ℕ) → result ≡ Err (fault.Full need free) → lacking (as_changes pairs) before.room ≡ Some (record { need = need; free = free })
    lacks_so need free is =
        ⊎_elim (λ memory. absurd (no_memory memory))
        (λ rest. ⊎_elim (λ (worn : result ≡ Err fault.Worn). absurd (worn_full need free worn is))
        (λ (each : (need free : ℕ) → IsErrOf result (fault.Full need free) ↔ (lacking (as_changes pairs) before.room ≡ Some (record { need = need; free = free }))).
        (each need free).0 is) rest)
        ended.full
      where
        worn_full : (need free : ℕ) → result ≡ Err fault.Worn → result ≡ Err (fault.Full need free) → ⊥
        worn_full need free worn full = cc

  pub ended_ok : (number : ℕ) → before.doubt ≡ None → Ended (Ok number) before after pairs → IsCommit before (as_changes pairs) (outcome.Ok number) after
  ended_ok number sure ended =
      commit_made before after (as_changes pairs) number sure
      (record { version = ended.version; image = ended.image; room = ended.room; doubt = not_doubtful (Ok number) ended (λ is. cc) (λ is. cc) }) ended.answer
      (is_fresh (Ok number) ended (λ is. cc) (λ is. cc)) (fits_in (Ok number) ended (λ is. cc) (λ is. cc) (λ need free is. cc))

  stays : (cause : CommitFault) → Ended (Err cause) before after pairs → Stays before after
  stays cause ended = record { version = ended.same_version; image = ended.same_image; room = ended.same_room }

  pub ended_memory : before.doubt ≡ None → Ended (Err fault.Memory) before after pairs → after ≡ before
  ended_memory sure ended =
      sym (unchanged before after sure (stays fault.Memory ended) (none_of after.doubt (λ doubted. let is : Err fault.Memory ≡ Err fault.Doubt = ended.doubtful.1 doubted in cc)))

  pub ended_worn : before.doubt ≡ None → Ended (Err fault.Worn) before after pairs → IsCommit before (as_changes pairs) outcome.Worn after
  ended_worn sure ended =
      commit_worn before after (as_changes pairs) sure (stays fault.Worn ended) (not_doubtful (Err fault.Worn) ended (λ is. cc) (λ is. cc))
      (⊎_elim (λ is. cc) (λ (iff : IsErrOf (Err fault.Worn) fault.Worn ↔ IsTrue (is_worn (as_changes pairs) before.version)). iff.0 refl) ended.worn)

  pub ended_full : (need free : ℕ) → before.doubt ≡ None → Ended (Err (fault.Full need free)) before after pairs → IsCommit before (as_changes pairs) (outcome.Full need free) after
  ended_full need free sure ended =
      let result : Result ℕ CommitFault = Err (fault.Full need free) in
      commit_full before after (as_changes pairs) (record { need = need; free = free }) sure (stays (fault.Full need free) ended) (not_doubtful result ended (λ is. cc) (λ is. cc))
      (is_fresh result ended (λ is. cc) (λ is. cc)) (lacks_so result ended (λ is. cc) need free refl)

pub ended_disk : (before after : VaultState) (pairs : List (ℕ × List ℕ)) → before.doubt ≡ None → Ended (Err fault.Disk) before after pairs
    → IsCommit before (as_changes pairs) outcome.Disk after
ended_disk before after [] sure ended = let is : fault.Disk ≡ fault.Memory = ended.unchanged refl in cc
ended_disk before after (pair ∷ pairs) sure ended =
    let result : Result ℕ CommitFault = Err fault.Disk in
    commit_failed before after (record { page = pair.0; words = pair.1 }) (as_changes pairs) sure (stays before after (pair ∷ pairs) fault.Disk ended)
    (not_doubtful before after (pair ∷ pairs) result ended (λ is. cc) (λ is. cc)) (is_fresh before after (pair ∷ pairs) result ended (λ is. cc) (λ is. cc))
    (fits_in before after (pair ∷ pairs) result ended (λ is. cc) (λ is. cc) (λ need free is. cc))

pub ended_doubt : (before after : VaultState) (pairs : List (ℕ × List ℕ)) → Ended (Err fault.Doubt) before after pairs → IsCommit before (as_changes pairs) outcome.Doubt after
ended_doubt before after [] ended = let is : fault.Doubt ≡ fault.Memory = ended.unchanged refl in cc
ended_doubt before after (pair ∷ pairs) ended =
    let result : Result ℕ CommitFault = Err fault.Doubt in
    commit_doubted before after (record { page = pair.0; words = pair.1 }) (as_changes pairs) (stays before after (pair ∷ pairs) fault.Doubt ended) (ended.doubt refl)
    (is_fresh before after (pair ∷ pairs) result ended (λ is. cc) (λ is. cc)) (fits_in before after (pair ∷ pairs) result ended (λ is. cc) (λ is. cc) (λ need free is. cc))

-- a vault that settled
pub record Settles (before after : VaultState) : Type 0 where
  pub version : after.version ≡ version_settled before.doubt before.version
  pub image : after.image ≡ with_changes before.image (changes_in before.doubt)
  pub room : after.room ≡ room_settled before.doubt before.room
  pub doubt : after.doubt ≡ None

pub settle_made : (before after : VaultState) → Settles before after → settled_vault before ≡ after
settle_made before after settles = by before.doubt refl settles.version settles.image settles.room
  where
    by : (doubt : Option (List Change)) → before.doubt ≡ doubt → after.version ≡ version_settled doubt before.version → after.image ≡ with_changes before.image (changes_in doubt)
        → after.room ≡ room_settled doubt before.room → settled_with before doubt ≡ after
    by None is version image room = same_told before after (sym image) (sym version) (sym room) (is ∙ sym settles.doubt)
    by (Some changes) is version image room = same_told (made before changes) after (sym image) (sym version) (sym room) (sym settles.doubt)
