use Rattle.std.proofs.Common.{◌≡◌, ◌==◌, ℕ, List, Bool, true, false, cond, refl, sym, ap, ap₂, ◌∙◌, subst}
use Rattle.std.specs.Prelude.{Option, None, Some, find, unwrap_or}
use Rattle.std.proofs.lemmas.Option.{none-some}
use Rattle.casper_words.specs.Crew.{IsClient}
use Rattle.casper_space.specs.declared.answer.Answer.TheVariants as answer
use Rattle.casper_model.specs.declared.event.Event.TheVariants as event
use Rattle.casper_model.specs.declared.outcome.Finished.{Finished}
use Rattle.casper_model.specs.declared.outcome.Outcome.{Outcome}
use Rattle.casper_model.specs.Answers.{of_finish}
use Rattle.casper_model.specs.Finish.{finish, settled, doubtful_of}
use Rattle.casper_model.specs.Outside.{Outside, NothingFailed, SettleFailed}
use Rattle.casper_model.specs.Stabilisation.{Stabilisation, is_doubtful}
use Rattle.casper_model.specs.State.{State, Unfinished}
use Rattle.casper_model.specs.Turn.{Turn, guarded}
use Rattle.casper_model.specs.Vault.{VaultState, settled_vault}
use Rattle.casper_model.specs.WriteOutStep.{finish_step, finish_turn, settle_step, of_settled}
use Rattle.casper_hub.specs.Committing.{doubtful_in}
use Rattle.casper_hub.specs.GoesOn.{KeepsClient}
use Rattle.casper_hub.specs.HubView.{HubView}
use Rattle.casper_hub.specs.Shows.{Shows}
use Rattle.casper_hub.specs.Turns.{IsChange}
use Rattle.casper_hub.specs.Words.{FramesAreRight}
use Rattle.casper_core.specs.Acting.{outside_in, outside_settled}
use Rattle.casper_core.specs.CoreView.{CoreView}
use Rattle.casper_core.specs.Placing.{changed}
use Rattle.casper_core.specs.Represents.{HasPartsOf}
use Rattle.casper_core.specs.Shaped.{RepresentsButWords, StepsInShape}
use Rattle.casper_core.specs.Sound.{IsSound}
use Rattle.casper_core.specs.Stepping.{Steps}
use Rattle.casper_core.specs.WritingOut.{ended_of}
use Rattle.casper_core.proofs.Changes.{shape_changed, parts_changed}
use Rattle.casper_core.proofs.StepParts.{answered_by, answered_same, made_same}

-- A finish and a settle of a core are the machine's.

module _ {V : Type 0} (core : CoreView V) (sound : IsSound core) where
  -- there is no such write-out to finish
  none_here : (lead : ℕ) (outside : Outside) (state : State) (unfinished : Option Unfinished) → ended_of lead unfinished ≡ None
      → finish_step state lead unfinished ≡ record { answer = answer.NoJob; state = state }
  none_here lead outside state None is = refl
  none_here lead outside state (Some one) is = by (one.lead == lead) is
    where
      by : (same : Bool) → cond same (Some one.outcome) None ≡ None
          → guarded same answer.NoJob state (finish_turn lead one.outcome) ≡ record { answer = answer.NoJob; state = state }
      by true is = absurd (none-some one.outcome (sym is))
      by false is = refl

  pub no_finish_steps : (lead : ℕ) → IsClient lead → ended_of lead core.unfinished ≡ None → Steps (event.Finish lead) answer.NoJob core core
  no_finish_steps lead client none state stands =
      answered_same state (event.Finish lead) answer.NoJob core core client stands
      (none_here lead NothingFailed state state.unfinished (ap (ended_of lead) stands.parts.unfinished ∙ none)) stands.parts

  pub no_finish_made : (lead : ℕ) → ended_of lead core.unfinished ≡ None → StepsInShape (event.Finish lead) answer.NoJob core core
  no_finish_made lead none state shape =
      made_same state (event.Finish lead) answer.NoJob core (none_here lead NothingFailed state state.unfinished (ap (ended_of lead) shape.unfinished ∙ none)) shape

  -- the write-out of a lead is finished
  finish_here : (lead : ℕ) (how : Outcome) (state : State) (unfinished : Option Unfinished) → ended_of lead unfinished ≡ Some how
      → finish_step state lead unfinished ≡ finish_turn lead how state
  finish_here lead how state None is = absurd (none-some how is)
  finish_here lead how state (Some one) is = by (one.lead == lead) is
    where
      by : (same : Bool) → cond same (Some one.outcome) None ≡ Some how → guarded same answer.NoJob state (finish_turn lead one.outcome) ≡ finish_turn lead how state
      by true is = ap (λ ended. finish_turn lead ended state) (ap (λ (o : Option Outcome). unwrap_or o how) is)
      by false is = absurd (none-some how is)

  module _ (after : HubView) (kept : (who : ℕ) → KeepsClient who core.hub after) where
    module _ (lead : ℕ) (client : IsClient lead) (how : Outcome) (ended : ended_of lead core.unfinished ≡ Some how)
        (done : Option Finished) (turn : IsChange (λ shared. finish shared lead how) done core.hub after) where
      finish_is : (state : State) → Shows state.shared core.hub → state.unfinished ≡ core.unfinished → finish_step state lead state.unfinished
          ≡ record { answer = of_finish done; state = record state { shared = (finish state.shared lead how).shared; unfinished = None } }
      finish_is state shows same =
          finish_here lead how state state.unfinished (ap (ended_of lead) same ∙ ended)
          ∙ ap (λ one. record { answer = of_finish one; state = record state { shared = (finish state.shared lead how).shared; unfinished = None } })
          (sym (turn.replies state.shared shows))

      pub finish_made : StepsInShape (event.Finish lead) (of_finish done) core (changed core after None core.vault core.size core.told)
      finish_made state shape =
          let here = finish_is state shape.shared shape.unfinished in
          record {
            answers = sym (ap (λ (turned : Turn). turned.answer) here);
            shape = subst (λ (turned : Turn). RepresentsButWords turned.state (changed core after None core.vault core.size core.told)) (sym here)
                (shape_changed core sound after kept None core.vault core.size core.told state (finish state.shared lead how).shared state.vault shape (turn.shows state.shared shape.shared));
          }

      pub finish_steps : ((base : List (List ℕ)) → FramesAreRight base core.hub → FramesAreRight base after)
          → Steps (event.Finish lead) (of_finish done) core (changed core after None core.vault core.size core.told)
      finish_steps frames state stands =
          let shared = (finish state.shared lead how).shared in
          let here = finish_is state stands.parts.shared stands.parts.unfinished
          ∙ ap (λ vault. record { answer = of_finish done; state = record state { shared = shared; vault = vault; unfinished = None } }) stands.parts.vault in
          answered_by state (event.Finish lead) (of_finish done) core (changed core after None core.vault core.size core.told) client stands
          (sym (ap (λ (turned : Turn). turned.answer) here))
          (subst (λ (turned : Turn). HasPartsOf turned.state (changed core after None core.vault core.size core.told)) (sym here)
          (parts_changed core sound after kept None core.vault core.size core.told state shared stands.parts (turn.shows state.shared stands.parts.shared)
          (frames state.base stands.parts.frames)))

  -- nothing is in doubt
  doubtful_here : (state : State) → Shows state.shared core.hub → doubtful_of state.shared ≡ doubtful_in core.hub
  doubtful_here state shows = ap (λ all. find (λ (one : Stabilisation). is_doubtful one.phase) all) shows.stabilisations

  pub nothing_steps : doubtful_in core.hub ≡ None → Steps event.Settle answer.Nothing core core
  nothing_steps none state stands =
      answered_same state event.Settle answer.Nothing core core tt stands
      (ap (settle_step state (outside_in event.Settle answer.Nothing)) (doubtful_here state stands.parts.shared ∙ none)) stands.parts

  pub nothing_made : doubtful_in core.hub ≡ None → StepsInShape event.Settle answer.Nothing core core
  nothing_made none state shape =
      made_same state event.Settle answer.Nothing core (ap (settle_step state (outside_in event.Settle answer.Nothing)) (doubtful_here state shape.shared ∙ none)) shape

  module _ (one : Stabilisation) (doubtful : doubtful_in core.hub ≡ Some one) where
    -- the vault did not settle
    module _ (vault : V) (size : ℕ) (told : VaultState) where
      pub failed_made : StepsInShape event.Settle answer.Disk core (changed core core.hub core.unfinished vault size told)
      failed_made state shape =
          made_same state event.Settle answer.Disk (changed core core.hub core.unfinished vault size told)
          (ap (settle_step state SettleFailed) (doubtful_here state shape.shared ∙ doubtful))
          (record { shared = shape.shared; places = shape.places; owns = shape.owns; unfinished = shape.unfinished })

      pub failed_steps : told ≡ core.told → Steps event.Settle answer.Disk core (changed core core.hub core.unfinished vault size told)
      failed_steps same state stands =
          answered_same state event.Settle answer.Disk core (changed core core.hub core.unfinished vault size told) tt stands
          (ap (settle_step state SettleFailed) (doubtful_here state stands.parts.shared ∙ doubtful))
          (record {
            shared = stands.parts.shared;
            owns = stands.parts.owns;
            unfinished = stands.parts.unfinished;
            vault = stands.parts.vault ∙ sym same;
            pages = stands.parts.pages;
            frames = stands.parts.frames;
            words = stands.parts.words;
          })

    -- it did
    module _ (after : HubView) (kept : (who : ℕ) → KeepsClient who core.hub after) (mark : Option ℕ) (turn : IsChange settled mark core.hub after)
        (vault : V) (size : ℕ) (told : VaultState) where
      said_settled : (mark : Option ℕ) → outside_settled (of_settled mark) ≡ NothingFailed
      said_settled None = refl
      said_settled (Some place) = refl

      settle_is : (state : State) → Shows state.shared core.hub → settle_step state (outside_in event.Settle (of_settled mark)) (doubtful_of state.shared)
          ≡ record { answer = of_settled mark; state = record state { shared = (settled state.shared).shared; vault = settled_vault state.vault } }
      settle_is state shows =
          ap₂ (settle_step state) (said_settled mark) (doubtful_here state shows ∙ doubtful)
          ∙ ap (λ reply. record { answer = of_settled reply; state = record state { shared = (settled state.shared).shared; vault = settled_vault state.vault } })
          (sym (turn.replies state.shared shows))

      pub settle_made : StepsInShape event.Settle (of_settled mark) core (changed core after core.unfinished vault size told)
      settle_made state shape =
          let shared = (settled state.shared).shared in
          let here = settle_is state shape.shared
          ∙ ap (λ unfinished. record { answer = of_settled mark; state = record state { shared = shared; vault = settled_vault state.vault; unfinished = unfinished } }) shape.unfinished in
          record {
            answers = sym (ap (λ (turned : Turn). turned.answer) here);
            shape = subst (λ (turned : Turn). RepresentsButWords turned.state (changed core after core.unfinished vault size told)) (sym here)
                (shape_changed core sound after kept core.unfinished vault size told state shared (settled_vault state.vault) shape (turn.shows state.shared shape.shared));
          }

      pub settle_steps : settled_vault core.told ≡ told → ((base : List (List ℕ)) → FramesAreRight base core.hub → FramesAreRight base after)
          → Steps event.Settle (of_settled mark) core (changed core after core.unfinished vault size told)
      settle_steps settles frames state stands =
          let shared = (settled state.shared).shared in
          let here = settle_is state stands.parts.shared
          ∙ ap₂ (λ left unfinished. record { answer = of_settled mark; state = record state { shared = shared; vault = left; unfinished = unfinished } })
          (ap settled_vault stands.parts.vault ∙ settles) stands.parts.unfinished in
          answered_by state event.Settle (of_settled mark) core (changed core after core.unfinished vault size told) tt stands
          (sym (ap (λ (turned : Turn). turned.answer) here))
          (subst (λ (turned : Turn). HasPartsOf turned.state (changed core after core.unfinished vault size told)) (sym here)
          (parts_changed core sound after kept core.unfinished vault size told state shared stands.parts (turn.shows state.shared stands.parts.shared)
          (frames state.base stands.parts.frames)))
