use Rattle.std.proofs.Common.{◌≡◌, ◌<◌, ℕ, zero, List, [], ◌∷◌, Bool, true, false, cond, refl, sym, ap, ◌∙◌, subst, ⊎_elim, arith}
use Rattle.std.specs.Prelude.{Option, None, Some, IsTrue, is_some, unwrap_or, nat_lt, Contains, MatchOption}
use Rattle.std.specs.List.{list_all}
use Rattle.std.proofs.lemmas.Bool.{and_from, cases_lt, lt-ltb}
use Rattle.std.proofs.lemmas.List.{get_or_past}
use Rattle.casper_words.specs.declared.page.Want.{Want}
use Rattle.casper_trail.proofs.LinkLists.{contains_there}
use Rattle.casper_words.specs.Crew.{IsClient}
use Rattle.casper_space.specs.declared.answer.Answer.{Answer}
use Rattle.casper_cache.specs.Own as cache
use Rattle.casper_space.specs.declared.answer.Answer.TheVariants as answer
use Rattle.casper_model.specs.declared.event.Event.{Event}
use Rattle.casper_model.specs.declared.event.Event.TheVariants as event
use Rattle.casper_model.specs.Shared.{is_live}
use Rattle.casper_model.specs.Outside.{Outside, NothingFailed, LoadFailed, SettleFailed}
use Rattle.casper_model.specs.Rights.{NamesClients}
use Rattle.casper_model.specs.State.{State, own_at}
use Rattle.casper_model.specs.Own as machine
use Rattle.casper_model.specs.Step.{step}
use Rattle.casper_model.specs.Turn.{Turn, guarded}
use Rattle.casper_model.specs.Run.{tells_of, is_disk}
use Rattle.casper_model.specs.Vault.{VaultState}
use Rattle.casper_model.proofs.RunHistory.{step_history}
use Rattle.casper_model.proofs.RoomRuns.{step_room}
use Rattle.casper_model.proofs.WholeRuns.{whole_legal}
use Rattle.casper_hub.specs.HubView.{HubView, ClientView, client_in, frame_in}
use Rattle.casper_hub.specs.HubView as hub
use Rattle.casper_hub.specs.Owned.{Owns, own_of}
use Rattle.casper_hub.specs.Words.{AreWords, CacheIsRight, live_value, stored_value}
use Rattle.casper_disk.specs.Vault.{page_at}
use Rattle.casper_model.specs.Growth.{StepAdds}
use Rattle.casper_model.proofs.StepAdditions.{step_adds}
use Rattle.casper_core.specs.UnheldPages.{UnheldPagesAreRight}
use Rattle.casper_trail.specs.Legal.{IsLegal}
use Rattle.casper_hub.specs.Shows.{Shows}
use Rattle.casper_hub.proofs.Showing.{liveness_shown}
use Rattle.casper_core.specs.Acting.{outside_of, outside_written, outside_in, IsPart, IsTurnResult, RefinesTurn, KeepsHubRight, Holds}
use Rattle.casper_core.specs.CoreView.{CoreView, cache_at}
use Rattle.casper_core.specs.Placing.{placed, IsPlaced, IsRight}
use Rattle.casper_core.specs.Shaped.{IsShape, RepresentsButWords, IsMade, step_with}
use Rattle.casper_core.specs.Sound.{IsSound}
use Rattle.casper_core.specs.Represents.{own_part, HasPartsOf, Represents}
use Rattle.casper_core.specs.Stepping.{IsAnswered, Steps, HasLegalTrail}
use Rattle.casper_laws.proofs.StepFrozen.{step_orderly}
use Rattle.casper_laws.proofs.StepImage.{step_stored}
use Rattle.casper_core.proofs.Places.{parts_placed}
use Rattle.casper_core.proofs.Stored.{stored_of, clean_unframed}

-- A step of a core is the machine's step.

-- an answer tells of what the outside did
write_tells : (said : Answer) → tells_of (outside_written said) said ≡ true
write_tells answer.Disk = refl
write_tells answer.Doubt = refl
write_tells other = refl

settle_by : (answer : Answer) (disk : Bool) → is_disk answer ≡ disk → tells_of (cond disk SettleFailed NothingFailed) answer ≡ true
settle_by answer true is = is
settle_by answer false is = refl

tells_by : (answer : Answer) (disk : Bool) → is_disk answer ≡ disk → tells_of (cond disk LoadFailed NothingFailed) answer ≡ true
tells_by answer true is = is
tells_by answer false is = refl

client_tells : (said : Answer) → tells_of (outside_of said) said ≡ true
client_tells said = tells_by said (is_disk said) refl

pub answer_tells : (one : Event) (said : Answer) → tells_of (outside_in one said) said ≡ true
answer_tells (event.WriteOut lead) said = write_tells said
answer_tells event.Settle said = settle_by said (is_disk said) refl
answer_tells other said = client_tells said

pub live_where : {V : Type 0} (core : CoreView V) (who : ℕ) (live : Bool) (state : State) → IsSound core → Shows state.shared core.hub → is_some (cache_at core who) ≡ live
    → is_live state.shared who ≡ live
live_where core who live state sound shows is = liveness_shown state.shared core.hub shows who ∙ sym (sound.live who) ∙ is

-- an answer that is the machine's
pub answered_by : {V : Type 0} (state : State) (event : Event) (said : Answer) (core after : CoreView V) → NamesClients event → Represents state core
    → said ≡ (step state event (outside_in event said)).answer → HasPartsOf (step state event (outside_in event said)).state after → IsAnswered state event said after
answered_by state event said core after named stands is parts = record {
  outside_fits = ap (tells_of (outside_in event said)) (sym is) ∙ answer_tells event said;
  answers = is;
  stands = record {
    parts = parts;
    history = step_history state event (outside_in event said) named stands.history;
    room = step_room state event (outside_in event said) named stands.history.order stands.room;
    orderly = step_orderly state event (outside_in event said) named stands.history stands.orderly;
    image = step_stored state event (outside_in event said) named stands.history stands.orderly stands.image;
  };
}

-- an answer where nothing has changed
pub answered_same : {V : Type 0} (state : State) (event : Event) (said : Answer) (core after : CoreView V) → NamesClients event → Represents state core
    → step state event (outside_in event said) ≡ record { answer = said; state = state } → HasPartsOf state after → IsAnswered state event said after
answered_same state event said core after named stands is parts =
    answered_by state event said core after named stands (sym (ap (λ (turn : Turn). turn.answer) is)) (subst (λ (turn : Turn). HasPartsOf turn.state after) (sym is) parts)

-- a refusal by a test
pub refused_by : (test : Bool) (refusal : Answer) (state : State) (turn : State → Turn) → test ≡ false → guarded test refusal state turn ≡ record { answer = refusal; state = state }
refused_by test refusal state turn is = ap (λ b. guarded b refusal state turn) is

pub passed_by : (test : Bool) (refusal : Answer) (state : State) (turn : State → Turn) → test ≡ true → guarded test refusal state turn ≡ turn state
passed_by test refusal state turn is = ap (λ b. guarded b refusal state turn) is

-- the part of a state that is a client's
pub part_of : {V : Type 0} (core : CoreView V) (who : ℕ) (own : cache.Own) (state : State) → IsClient who → cache_at core who ≡ Some own → Represents state core
    → IsPart who core.told.image state core.hub own
part_of core who own state client found stands = record {
  shared = stands.parts.shared;
  place = omega (arith, client.1, stands.history.order.shaped.owns);
  part = stands.parts.owns who (omega (arith, client.1)) ∙ ap (own_part core.capacity who) found;
  stored = stored_of state core stands;
  frames = stands.parts.frames;
  words = stands.parts.words who own found;
}

-- after a turn of a client that leaves it its cache
pub placed_again : {V : Type 0} (core : CoreView V) (who : ℕ) (own : cache.Own) (tells : Bool) (image : List (List ℕ)) (after : HubView) (own_after : cache.Own)
    → IsSound core → cache_at core who ≡ Some own → KeepsHubRight who tells image core.hub own after → Holds who tells image core.hub own after own_after
    → IsPlaced who core after (Some own_after)
placed_again core who own tells image after own_after sound found leaves holds = record {
  sound = leaves.sound;
  others = leaves.others;
  still = leaves.still;
  live = sym (subst (λ number. hub.is_live after number ≡ true) holds.client holds.owns.live);
  client = λ one is. subst (λ (o : cache.Own). o.client ≡ who) (some_is is) holds.client;
  same_capacity = λ one is. subst (λ (o : cache.Own). o.capacity ≡ core.capacity) (some_is is) (holds.capacity ∙ (sound.kept who own found).capacity);
  owns = λ one is. subst (Owns after) (some_is is) holds.owns;
}
  where
    some_is : {one other : cache.Own} → ◌≡◌ {A = Option cache.Own} (Some one) (Some other) → one ≡ other
    some_is is = ap (λ o. unwrap_or o own) is

pub right_again : {V : Type 0} (core : CoreView V) (who : ℕ) (own : cache.Own) (tells : Bool) (state : State) (after : HubView) (own_after : cache.Own) → IsTrue tells
    → cache_at core who ≡ Some own → Represents state core → KeepsHubRight who tells core.told.image core.hub own after → Holds who tells core.told.image core.hub own after own_after
    → IsRight state.base after (Some own_after)
right_again core who own tells state after own_after told found stands leaves holds = record {
  frames = leaves.frames told state.base (stored_of state core stands) stands.parts.frames (stands.parts.words who own found);
  words = λ one is. subst (CacheIsRight state.base after) (ap (λ o. unwrap_or o own) is) (holds.words told state.base (stored_of state core stands) stands.parts.frames (stands.parts.words who own found));
}

-- the step of a live client that keeps its cache
pub client_answered : {V : Type 0} (core : CoreView V) (who : ℕ) (own : cache.Own) (event : Event) (said : Answer) (turn : Outside → State → Turn) (tells : Bool) (after : HubView) (own_after : cache.Own)
    (calls : ℕ) (vault : V) (size : ℕ) (told : VaultState) → IsTrue tells → IsSound core → IsClient who → cache_at core who ≡ Some own → NamesClients event
    → ((state : State) → Represents state core → step state event (outside_in event said) ≡ turn (outside_of said) state)
    → RefinesTurn who tells core.told.image turn core.hub own said after own_after
    → KeepsHubRight who tells core.told.image core.hub own after → Holds who tells core.told.image core.hub own after own_after → told ≡ core.told
    → Steps event said core (placed core who after (Some own_after) calls vault size told)
client_answered core who own event said turn tells after own_after calls vault size told is_told sound client found named is does leaves holds same state stands =
    let gives = does is_told state (part_of core who own state client found stands) in
    let of_step : IsTurnResult who state (step state event (outside_in event said)) said after (own_of own_after) =
    subst (λ one. IsTurnResult who state one said after (own_of own_after)) (sym (is state stands)) gives in
    answered_by state event said core (placed core who after (Some own_after) calls vault size told) named stands of_step.answers
    (parts_placed core who after (Some own_after) calls vault size told state (step state event (outside_in event said)) said sound client
    (placed_again core who own tells core.told.image after own_after sound found leaves holds) stands.parts of_step
    (right_again core who own tells state after own_after is_told found stands leaves holds) same)

-- the trail of a core that stands for a state is legal
pub legal_of : {V : Type 0} (state : State) (core : CoreView V) → Represents state core → HasLegalTrail state core
legal_of state core stands = record {
  trail = subst (IsLegal state.base) stands.parts.shared.trail stands.history.history.legal;
  whole = whole_legal state stands.history;
}

-- pages within the store
pub all_in_range : (wants : List Want) (pages : ℕ) → ((want : Want) → Contains wants want → want.page < pages) → list_all (λ want. nat_lt want.page pages) wants ≡ true
all_in_range [] pages below = refl
all_in_range (want ∷ wants) pages below =
    and_from (nat_lt want.page pages) (list_all (λ one. nat_lt one.page pages) wants) (lt-ltb want.page pages (below want (zero, omega arith, refl)))
    (all_in_range wants pages (λ one inside. below one (contains_there want wants one inside)))

-- the calls that were counted are no part of the state
pub sound_counted : {V : Type 0} (core : CoreView V) (calls : ℕ) → IsSound core → IsSound (record core { calls = calls })
sound_counted core calls sound = record {
  hub = sound.hub;
  places = sound.places;
  live = sound.live;
  kept = λ who own found. let kept = sound.kept who own found in record { client = kept.client; capacity = kept.capacity; owns = kept.owns };
  least = sound.least;
  most = sound.most;
  size = sound.size;
  written = sound.written;
  alone = sound.alone;
  doubtful = sound.doubtful;
}

pub stands_counted : {V : Type 0} (state : State) (core : CoreView V) (calls : ℕ) → Represents state core → Represents state (record core { calls = calls })
stands_counted state core calls stands = record {
  parts = record {
    shared = stands.parts.shared;
    owns = stands.parts.owns;
    unfinished = stands.parts.unfinished;
    vault = stands.parts.vault;
    pages = stands.parts.pages;
    frames = stands.parts.frames;
    words = stands.parts.words;
  };
  history = stands.history;
  room = stands.room;
  orderly = stands.orderly;
  image = stands.image;
}

pub answered_counted : {V : Type 0} (state : State) (event : Event) (said : Answer) (core : CoreView V) (calls : ℕ) → IsAnswered state event said core → IsAnswered state event said (record core { calls = calls })
answered_counted state event said core calls is = record {
  outside_fits = is.outside_fits;
  answers = is.answers;
  stands = stands_counted (step state event (outside_in event said)).state core calls is.stands;
}

-- a state that a core stands for has its shape
pub shape_of : {V : Type 0} (state : State) (core : CoreView V) → Represents state core → RepresentsButWords state core
shape_of state core stands = record {
  shared = stands.parts.shared;
  places = stands.history.order.shaped.owns;
  owns = stands.parts.owns;
  unfinished = stands.parts.unfinished;
}

-- the part of a state that is a client's
pub shape_at : {V : Type 0} (core : CoreView V) (who : ℕ) (own : cache.Own) (state : State) → IsClient who → cache_at core who ≡ Some own → RepresentsButWords state core
    → IsShape who state core.hub own
shape_at core who own state client found shape = record {
  shared = shape.shared;
  place = omega (arith, client.1, shape.places);
  part = shape.owns who (omega (arith, client.1)) ∙ ap (own_part core.capacity who) found;
}

-- the own part of a client has its number
pub number_at : {V : Type 0} (core : CoreView V) (who : ℕ) (state : State) → IsSound core → RepresentsButWords state core → (own_at state who).who ≡ who
number_at core who state sound shape =
    ⊎_elim (λ below. ap (λ (own : machine.Own). own.who) (shape.owns who below) ∙ by_place (cache_at core who) refl)
    (λ past. ap (λ (own : machine.Own). own.who) (get_or_past state.owns who (machine.blank who 0) (omega (arith, past, shape.places)))) (cases_lt who 33)
  where
    by_place : (place : Option cache.Own) → cache_at core who ≡ place → (own_part core.capacity who place).who ≡ who
    by_place None is = refl
    by_place (Some own) is = (sound.kept who own is).client

-- an answer where nothing has changed
pub made_same : {V : Type 0} (state : State) (event : Event) (said : Answer) (after : CoreView V) → step_with state event said ≡ record { answer = said; state = state } → RepresentsButWords state after
    → IsMade state event said after
made_same state event said after is shape = record {
  answers = sym (ap (λ (turn : Turn). turn.answer) is);
  shape = subst (λ (turn : Turn). RepresentsButWords turn.state after) (sym is) shape;
}

-- the calls that were counted are no part of the shape
pub made_counted : {V : Type 0} (state : State) (event : Event) (said : Answer) (core : CoreView V) (calls : ℕ) → IsMade state event said core → IsMade state event said (record core { calls = calls })
made_counted state event said core calls is = record {
  answers = is.answers;
  shape = record { shared = is.shape.shared; places = is.shape.places; owns = is.shape.owns; unfinished = is.shape.unfinished };
}

-- a page that nobody holds for writing
unheld_page : (value stored : ℕ → ℕ → ℕ) (page : ℕ) (kept : List ℕ) (frame : Option (List ℕ)) → (frame ≡ None → AreWords stored page kept)
    → MatchOption frame ((word : ℕ) → word < 512 → value page word ≡ stored page word) (λ words. AreWords value page words)
    → MatchOption frame (AreWords value page kept) (λ words. AreWords value page words)
unheld_page value stored page kept None are same = let stored = are refl in record { long = stored.long; each = λ word below. stored.each word below ∙ sym (same word below) }
unheld_page value stored page kept (Some words) are same = same

pub unheld_of : {V : Type 0} (state : State) (core : CoreView V) → IsSound core → Represents state core → UnheldPagesAreRight state core
unheld_of state core sound stands page below free =
    unheld_page (live_value state.base core.hub) (stored_value state.base core.hub) page (page_at core.told.image page) (frame_in core.hub.pages page)
    (λ none. stored_of state core stands page below (clean_unframed core.hub sound.hub page none))
    (stands.parts.frames page (λ writer is. cc))

-- what a step adds to the trail
pub adds_of : {V : Type 0} (event : Event) (said : Answer) (core after : CoreView V) → Steps event said core after → (state : State) → Represents state core → StepAdds state event after.hub.trail
adds_of event said core after steps state stands =
    subst (StepAdds state event) (steps state stands).stands.parts.shared.trail (step_adds state event (outside_in event said))
