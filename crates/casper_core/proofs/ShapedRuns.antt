use Rattle.std.proofs.Common.{◌≡◌, ◌<◌, ℕ, List, [], ◌∷◌, ◌++◌, map, length, refl, sym, ap, ap₂, ◌∙◌, subst, arith}
use Rattle.std.specs.Prelude.{None, slice_index_or}
use Rattle.std.specs.List.{range_with_len}
use Rattle.std.proofs.lemmas.List.FromFn.{get_or-map-range_with_len, length-map-range_with_len}
use Rattle.casper_space.specs.declared.answer.Answer.{Answer}
use Rattle.casper_model.specs.declared.event.Event.{Event}
use Rattle.casper_model.specs.Own as machine
use Rattle.casper_model.specs.State.{State}
use Rattle.casper_hub.proofs.StandsFor.{stands_for}
use Rattle.casper_core.specs.CoreView.{CoreView, cache_at}
use Rattle.casper_core.specs.Shaped.{RepresentsButWords, StepsInShape, RunsInShape, step_with, state_with, answers_with}
use Rattle.casper_core.specs.Sound.{IsSound}
use Rattle.casper_core.specs.Represents.{own_part}
use Rattle.casper_core.specs.Stepping.{IsUnchanged}
use Rattle.casper_core.proofs.Loads.{shows_loaded}

-- A run of a core over any vault, step after step.

-- each sound core has the shape of some state
own_in : {V : Type 0} → CoreView V → ℕ → machine.Own
own_in core who = own_part core.capacity who (cache_at core who)

pub some_state : {V : Type 0} (core : CoreView V) → IsSound core → (state : State) × RepresentsButWords state core
unfolding own_in
some_state core sound = (
  record { base = []; shared = (stands_for core.hub sound.hub.stands).shared; owns = map (own_in core) (range_with_len 0 33); vault = core.told; unfinished = core.unfinished },
  record {
    shared = (stands_for core.hub sound.hub.stands).shows;
    places = length-map-range_with_len (own_in core) 0 33;
    owns = λ who below. get_or-map-range_with_len (own_in core) 0 33 who who (machine.blank who 0) below (omega arith);
    unfinished = refl;
  },
)

-- where nothing of the state has changed
pub shape_unchanged : {V : Type 0} (state : State) (core after : CoreView V) → IsUnchanged core after → RepresentsButWords state core → RepresentsButWords state after
shape_unchanged state core after same shape = record {
  shared = shows_loaded state.shared core.hub after.hub same.hub shape.shared;
  places = shape.places;
  owns = λ who below.
      shape.owns who below ∙ ap₂ (λ capacity caches. own_part capacity who (slice_index_or caches who None)) (sym same.capacity) (sym same.caches);
  unfinished = shape.unfinished ∙ sym same.unfinished;
}

state_more : (state : State) (events : List Event) (said : List Answer) (one : Event) (last : Answer) → length said < length events → one ≡ slice_index_or events (length said) one
    → state_with state events (said ++ last ∷ []) ≡ (step_with (state_with state events said) one last).state
state_more state [] said one last below is = absurd (omega (arith, below))
state_more state (event ∷ events) [] one last below is = ap (λ e. (step_with state e last).state) (sym is)
state_more state (event ∷ events) (first ∷ said) one last below is = state_more (step_with state event first).state events said one last (omega (arith, below)) is

answers_more : (state : State) (events : List Event) (said : List Answer) (one : Event) (last : Answer) → length said < length events → one ≡ slice_index_or events (length said) one
    → answers_with state events (said ++ last ∷ []) ≡ answers_with state events said ++ (step_with (state_with state events said) one last).answer ∷ []
answers_more state [] said one last below is = absurd (omega (arith, below))
answers_more state (event ∷ events) [] one last below is = ap (λ e. (step_with state e last).answer ∷ []) (sym is)
answers_more state (event ∷ events) (first ∷ said) one last below is =
    ap (λ rest. (step_with state event first).answer ∷ rest) (answers_more (step_with state event first).state events said one last (omega (arith, below)) is)

pub made_nothing : {V : Type 0} (events : List Event) (core : CoreView V) → RunsInShape events [] core core
made_nothing events core state shape = record { answers = refl; shape = shape }

pub made_more : {V : Type 0} (events : List Event) (said : List Answer) (one : Event) (last : Answer) (core middle after : CoreView V) → length said < length events
    → one ≡ slice_index_or events (length said) one → RunsInShape events said core middle → StepsInShape one last middle after → RunsInShape events (said ++ last ∷ []) core after
made_more events said one last core middle after below is runs steps state shape =
    let run = runs state shape in
    let made = steps (state_with state events said) run.shape in
    record {
      answers = ap₂ (λ front final. front ++ final ∷ []) run.answers made.answers ∙ sym (answers_more state events said one last below is);
      shape = subst (λ one. RepresentsButWords one after) (sym (state_more state events said one last below is)) made.shape;
    }

pub made_still : {V : Type 0} (events : List Event) (said : List Answer) (core middle after : CoreView V) → RunsInShape events said core middle → IsUnchanged middle after
    → RunsInShape events said core after
made_still events said core middle after runs same state shape =
    let run = runs state shape in
    record { answers = run.answers; shape = shape_unchanged (state_with state events said) middle after same run.shape }
