use Rattle.std.proofs.Common.{◌≡◌, ℕ, ◌+◌, true, List, [], ◌∷◌, ◌++◌, append_assoc, length, length-append, refl, sym, ap, ap₂, subst, ◌∙◌, cond, arith, map}
use Rattle.std.specs.Prelude.{IsTrue}
use Rattle.std.proofs.lemmas.Bool.{and_parts, and_from}
use Rattle.std.proofs.lemmas.List.{append-nil}
use Rattle.std.proofs.lemmas.List.Sums.{sum_by-append}
use Rattle.casper_trail.specs.declared.item.Item.{Item}
use Rattle.casper_trail.specs.TrailView.{is_commit, is_rollback, commit_count, rollback_count}
use Rattle.casper_space.specs.declared.answer.Answer.{Answer}
use Rattle.casper_space.specs.declared.answer.Answer.TheVariants as answer
use Rattle.casper_model.specs.declared.event.Event.{Event}
use Rattle.casper_model.specs.Rights.{AllNameClients, NamesClients}
use Rattle.casper_model.specs.Run.{Happening, fits, all_fit, answers_of, state_after}
use Rattle.casper_model.specs.State.{State, start}
use Rattle.casper_model.specs.Step.{step}
use Rattle.casper_model.specs.Vault.{VaultState}
use Rattle.casper_core.specs.Acting.{outside_in}
use Rattle.casper_core.specs.Stepping.{happening_of, happenings_of}
use Rattle.casper_sessions.specs.Chain.{Limits, opened}
use Rattle.casper_turns.specs.GoodRuns.{IsGoodMoment}
use Rattle.casper_turns.proofs.GoodRuns.{each_step_is_good, every_run_is_good}
use Rattle.casper_app.specs.declared.past.Past.{Past}
use Rattle.casper_app.specs.declared.schedule.Asked.{Asked}
use Rattle.casper_app.specs.declared.schedule.Asked.TheVariants as asks
use Rattle.casper_app.specs.Play.{Standing, Plays, begun, begun_again, added, past_with, by_machine, no_past}
use Rattle.casper_app.specs.Chain.{Played, PlayedSessionsAreAChain, ArePlayed, PlaysAreSessions, AllAskOfClients, all_items, asked_over, given_over, found_after}
use Rattle.casper_app.specs.Session.{IsSession, state_behind, trail_behind}
use Rattle.casper_app.proofs.LimitLemmas.{HasLimits, limits_stay}

pub played_chain : PlayedSessionsAreAChain
played_chain limits vault [] all = tt
played_chain limits vault (played ∷ more) all = (
  record {
    named = all.0.named;
    fits = all.0.session.outside_fits;
    found = all.0.found;
  },
  played_chain limits played.found more all.1,
)

commits_append : (items more : List Item) → commit_count (items ++ more) ≡ commit_count items + commit_count more
commits_append items more = sum_by-append (λ one. cond (is_commit one) 1 0) items more

rollbacks_append : (items more : List Item) → rollback_count (items ++ more) ≡ rollback_count items + rollback_count more
rollbacks_append items more = sum_by-append (λ one. cond (is_rollback one) 1 0) items more

-- marks that are counted one trail after another are those of both
added_again : (before first later both : ℕ) → both ≡ first + later → added (added before first) later ≡ added before both
added_again before first later both same = omega (arith, same)

past_again : (past : Past) (items more : List Item) → past_with (past_with past items) more ≡ past_with past (items ++ more)
past_again past items more =
    ap₂ (λ (c r : ℕ). let one : Past = record { commits = c; rollbacks = r } in one)
    (added_again past.commits (commit_count items) (commit_count more) (commit_count (items ++ more)) (commits_append items more))
    (added_again past.rollbacks (rollback_count items) (rollback_count more) (rollback_count (items ++ more)) (rollbacks_append items more))

-- one event more in a session
happenings_more : (events : List Event) (given : List Answer) (one : Event) (said : Answer) → length given ≡ length events
    → happenings_of (events ++ one ∷ []) (given ++ said ∷ []) ≡ happenings_of events given ++ happening_of one said ∷ []
happenings_more [] [] one said same = refl
happenings_more [] (other ∷ given) one said same = absurd (omega (arith, same))
happenings_more (other ∷ events) [] one said same = absurd (omega (arith, same))
happenings_more (other ∷ events) (was ∷ given) one said same = ap (λ (rest : List Happening). happening_of other was ∷ rest) (happenings_more events given one said (omega (arith, same)))

fit_more : (state : State) (before : List Happening) (next : Happening) → IsTrue (all_fit state before) → IsTrue (fits (state_after state before) next) → IsTrue (all_fit state (before ++ next ∷ []))
fit_more state [] next before fit = and_from (fits state next) true fit refl
fit_more state (first ∷ following) next before fit =
    let parts = and_parts (fits state first) (all_fit (step state first.event first.outside).state following) before in
    and_from (fits state first) (all_fit (step state first.event first.outside).state (following ++ next ∷ [])) parts.0
    (fit_more (step state first.event first.outside).state following next parts.1 fit)

answers_more : (state : State) (before : List Happening) (next : Happening)
    → answers_of state (before ++ next ∷ []) ≡ answers_of state before ++ (step (state_after state before) next.event next.outside).answer ∷ []
answers_more state [] next = refl
answers_more state (first ∷ following) next =
    ap (λ (rest : List Answer). (step state first.event first.outside).answer ∷ rest) (answers_more (step state first.event first.outside).state following next)

after_more : (state : State) (before : List Happening) (next : Happening) → state_after state (before ++ next ∷ []) ≡ (step (state_after state before) next.event next.outside).state
after_more state [] next = refl
after_more state (first ∷ following) next = after_more (step state first.event first.outside).state following next

named_more : (before : List Happening) (next : Happening) → AllNameClients before → NamesClients next.event → AllNameClients (before ++ next ∷ [])
named_more [] next named one = (one, tt)
named_more (first ∷ following) next named one = (named.0, named_more following next named.1 one)

behind_more : (events : List Event) (one : Event) (rest : List Asked) → map (λ (e : Event). asks.Event e) (events ++ one ∷ []) ++ rest ≡ map (λ (e : Event). asks.Event e) events ++ asks.Event one ∷ rest
behind_more [] one rest = refl
behind_more (first ∷ events) one rest = ap (λ (more : List Asked). asks.Event first ∷ more) (behind_more events one rest)

given_more : (given : List Answer) (one : Answer) (rest : List Answer) → (given ++ one ∷ []) ++ rest ≡ given ++ one ∷ rest
given_more given one rest = append_assoc given (one ∷ []) rest

-- a session that goes on: what it began with, its events and answers so far, and where it stands
record GoesOn (limits : Limits) (standing : Standing) (events : List Event) (said : List Answer) : Type 0 where
  named : AllNameClients (happenings_of events said)
  session : IsSession (opened limits standing.found) events said
  state : standing.state ≡ state_behind (opened limits standing.found) events said
  moment : IsGoodMoment standing.state
  has : HasLimits limits standing.state

one_more : (limits : Limits) (standing : Standing) (events : List Event) (said : List Answer) (one : Event) (given : Answer) → GoesOn limits standing events said → NamesClients one
    → by_machine.Answers standing.state one given → GoesOn limits (record standing { state = by_machine.after standing.state one given }) (events ++ one ∷ []) (said ++ given ∷ [])
one_more limits standing events said one given goes names answers =
    let begin : State = opened limits standing.found in
    let before = happenings_of events said in
    let next = happening_of one given in
    let more : happenings_of (events ++ one ∷ []) (said ++ given ∷ []) ≡ before ++ next ∷ [] = happenings_more events said one given goes.session.each in
    let fit : IsTrue (fits (state_after begin before) next) = subst (λ (s : State). IsTrue (fits s next)) goes.state answers.outside_fits in
    let told : given ≡ (step (state_after begin before) one (outside_in one given)).answer = answers.answers ∙ ap (λ (s : State). (step s one (outside_in one given)).answer) goes.state in
    record {
      named = subst AllNameClients (sym more) (named_more before next goes.named names);
      session = record {
        each = length-append said (given ∷ []) ∙ ap (λ (n : ℕ). n + 1) goes.session.each ∙ sym (length-append events (one ∷ []));
        outside_fits = subst (λ (h : List Happening). IsTrue (all_fit begin h)) (sym more) (fit_more begin before next goes.session.outside_fits fit);
        answers =
            ap₂ (λ (front : List Answer) (last : Answer). front ++ last ∷ []) goes.session.answers told ∙ sym (answers_more begin before next) ∙ ap (answers_of begin) (sym more);
      };
      state =
          ap (λ (s : State). (step s one (outside_in one given)).state) goes.state ∙ sym (after_more begin before next) ∙ ap (state_after begin) (sym more);
      moment = each_step_is_good standing.state one (outside_in one given) names goes.moment;
      has = limits_stay limits standing.state one (outside_in one given) names goes.moment goes.has;
    }

-- a session that begins
begins : (limits : Limits) (found : VaultState) (past : Past) → GoesOn limits (record { found = found; state = opened limits found; past = past }) [] []
begins limits found past = record {
  named = tt;
  session = record { each = refl; outside_fits = refl; answers = refl };
  state = refl;
  moment = every_run_is_good found limits.pages limits.entries limits.held [] tt;
  has = record { pages = refl; held = refl };
}

-- what follows in a session that goes on is its end, and further sessions
record FollowsOn (limits : Limits) (first : Standing) (events : List Event) (said : List Answer) (asked : List Asked) (given : List Answer) (last : Standing) : Type 0 where
  ended : List Played
  further : List Event
  told : List Answer
  asked_is : map (λ (one : Event). asks.Event one) events ++ asked ≡ asked_over ended further
  given_is : said ++ given ≡ given_over ended told
  played : ArePlayed limits first.found ended
  found : last.found ≡ found_after first.found ended
  goes : GoesOn limits last further told
  past : past_with last.past last.state.shared.trail ≡ past_with first.past (all_items limits first.found ended ++ last.state.shared.trail)

-- limits that a state has are those with which the next session begins
begun_within : (limits : Limits) (state : State) (found : VaultState) → HasLimits limits state → begun_again limits.entries state found ≡ opened limits found
begun_within limits state found has = ap₂ (λ (pages held : ℕ). start found pages limits.entries held) has.pages has.held

follows : (limits : Limits) (asked : List Asked) (given : List Answer) (first last : Standing) (events : List Event) (said : List Answer) → AllAskOfClients asked
    → GoesOn limits first events said → Plays by_machine limits.entries first asked given last → FollowsOn limits first events said asked given last
follows limits [] [] first last events said named goes same = subst (λ (s : Standing). FollowsOn limits first events said [] [] s) (sym same) (record {
  ended = [];
  further = events;
  told = said;
  asked_is = append-nil _;
  given_is = append-nil said;
  played = tt;
  found = refl;
  goes = goes;
  past = refl;
})
follows limits [] (one ∷ given) first last events said named goes none = absurd none
follows limits (one ∷ asked) [] first last events said named goes none = absurd none
follows limits (asks.Event one ∷ asked) (answered ∷ given) first last events said named goes plays =
    let next : Standing = record first { state = by_machine.after first.state one answered } in
    let on : GoesOn limits next (events ++ one ∷ []) (said ++ answered ∷ []) = one_more limits first events said one answered goes named.0 plays.1.0 in
    let rest : FollowsOn limits next (events ++ one ∷ []) (said ++ answered ∷ []) asked given last =
    follows limits asked given next last (events ++ one ∷ []) (said ++ answered ∷ []) named.1 on (subst (λ (s : Standing). Plays by_machine limits.entries s asked given last) plays.1.1 plays.2) in
    record {
      ended = rest.ended;
      further = rest.further;
      told = rest.told;
      asked_is = sym (behind_more events one asked) ∙ rest.asked_is;
      given_is = sym (given_more said answered given) ∙ rest.given_is;
      played = rest.played;
      found = rest.found;
      goes = rest.goes;
      past = rest.past;
    }
follows limits (asks.Reopen ∷ asked) (answered ∷ given) first last events said named goes plays =
    let found : VaultState = plays.1.0 in
    let next : Standing = record { found = found; state = opened limits found; past = past_with first.past first.state.shared.trail } in
    let was : plays.0 ≡ next =
    plays.1.3 ∙ ap (λ (s : State). let one : Standing = record { found = found; state = s; past = past_with first.past first.state.shared.trail } in one) (begun_within limits first.state found goes.has) in
    let rest : FollowsOn limits next [] [] asked given last =
    follows limits asked given next last [] [] named.1 (begins limits found next.past) (subst (λ (s : Standing). Plays by_machine limits.entries s asked given last) was plays.2) in
    let trail : first.state.shared.trail ≡ trail_behind (opened limits first.found) events said = ap (λ (s : State). s.shared.trail) goes.state in
    let items : List Item = all_items limits found rest.ended in
    record {
      ended = record { events = events; given = said; found = found } ∷ rest.ended;
      further = rest.further;
      told = rest.told;
      asked_is = ap (λ (more : List Asked). map (λ (one : Event). asks.Event one) events ++ asks.Reopen ∷ more) rest.asked_is;
      given_is =
          ap (λ (a : Answer). said ++ a ∷ given) plays.1.2 ∙ ap (λ (more : List Answer). said ++ answer.Reopened found.version ∷ more) rest.given_is;
      played = (
        record {
          named = goes.named;
          session = goes.session;
          found = subst (λ (s : State). by_machine.Finds s.vault found) goes.state plays.1.1;
        },
        rest.played,
      );
      found = rest.found;
      goes = rest.goes;
      past =
          rest.past ∙ past_again first.past first.state.shared.trail (items ++ last.state.shared.trail)
          ∙ ap (past_with first.past) (sym (append_assoc first.state.shared.trail items last.state.shared.trail)
          ∙ ap (λ (t : List Item). (t ++ items) ++ last.state.shared.trail) trail);
    }

pub plays_are_sessions : PlaysAreSessions
plays_are_sessions limits vault asked given last named plays =
    let all : FollowsOn limits (begun (opened limits vault)) [] [] asked given last =
    follows limits asked given (begun (opened limits vault)) last [] [] named (begins limits vault no_past) plays in
    record {
      ended = all.ended;
      events = all.further;
      said = all.told;
      asked_is = all.asked_is;
      given_is = all.given_is;
      played = all.played;
      found = all.found;
      named = all.goes.named;
      session = all.goes.session;
      state = all.goes.state;
      commits = ap (λ (p : Past). p.commits) all.past;
      rollbacks = ap (λ (p : Past). p.rollbacks) all.past;
    }
