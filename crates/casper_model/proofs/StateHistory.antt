use Rattle.std.proofs.Common.{◌≡◌, ◌≢◌, ◌⊎◌, ◌<◌, ◌≤◌, ℕ, List, [], ◌∷◌, ◌++◌, false, length, Contains, get_or, get_or-set_same, get_or-set_other, refl, sym, ap, ◌∙◌, subst, inl, inr, ⊎_elim, true≢false, arith}
use Rattle.std.specs.Prelude.{Option, None, Some, is_some}
use Rattle.std.proofs.lemmas.Bool.{cases_eq, cases_lt}
use Rattle.casper_words.specs.Crew.{IsClient, has_member}
use Rattle.casper_words.specs.declared.call.Call.{Call}
use Rattle.casper_words.specs.declared.page.Right.TheVariants as may
use Rattle.casper_trail.specs.declared.mark.Mark.{Mark}
use Rattle.casper_trail.specs.declared.mark.Mark.TheVariants.{Commit}
use Rattle.casper_trail.specs.declared.item.Item.{Item}
use Rattle.casper_trail.specs.declared.item.Item.TheVariants as item
use Rattle.casper_trail.specs.Fate.{members_of}
use Rattle.casper_trail.specs.Parts.{as_items, live_entries}
use Rattle.casper_trail.specs.Calls.{entries_by}
use Rattle.casper_trail.specs.Legal.{IsLegal, AreRightAfter}
use Rattle.casper_trail.specs.Marks.{IsExactMark}
use Rattle.casper_trail.specs.Clients.{AreOfClients}
use Rattle.casper_trail.proofs.InTurn.{legal_after_mark}
use Rattle.casper_model.specs.Held.{allows}
use Rattle.casper_model.specs.Client.{Client, Fallen}
use Rattle.casper_model.specs.Shared.{Shared, client_at, rights_at}
use Rattle.casper_model.specs.Own.{Own, blank}
use Rattle.casper_model.specs.State.{State, own_at, with_own, with_shared}
use Rattle.casper_model.specs.Rights.{Agrees, AgreesUnlessFallen, AllowTheSame, InOrder}
use Rattle.casper_model.specs.LegalHistory.{IsGoodNow, IsGoodUnlessFallen, IsGood, HasLegalHistory}
use Rattle.casper_model.proofs.Places.{client_beyond}
use Rattle.casper_model.proofs.OpeningRights.{IsUp}
use Rattle.casper_model.proofs.TurnRights.{rights_of_live}
use Rattle.casper_model.proofs.Entries.{added_by}
use Rattle.casper_model.proofs.TurnHistory.{Records, good_other, good_own, legal_recorded}
use Rattle.casper_model.proofs.MarkHistory.{good_behind_rollback, good_behind_commit}

-- a client that is good is so at any place
pub good_anywhere : (base : List (List ℕ)) (trail : List Item) (place : Option Client) (own : Own) → IsGoodNow base trail own → IsGood base trail place own
good_anywhere base trail None own good = tt
good_anywhere base trail (Some client) own good = by_fallen client.fallen
  where
    by_fallen : (fallen : Option Fallen) → IsGoodUnlessFallen base trail own fallen
    by_fallen None = good
    by_fallen (Some fallen) = tt

-- a client that has nothing pending and holds nothing is good
pub good_empty : (base : List (List ℕ)) (trail : List Item) (own : Own) → own.pending ≡ [] → own.held ≡ [] → IsGoodNow base trail own
good_empty base trail own pending held = record {
  held = λ call inside. absurd (nothing_in call (subst (λ calls. Contains calls call) pending inside));
  right = subst (λ calls. AreRightAfter base (live_entries trail) (entries_by own.who calls)) (sym pending) tt;
  writers = λ page found. absurd (true≢false (sym found ∙ ap (λ list. allows list page may.Read) held));
}
  where
    nothing_in : (call : Call) → Contains [] call → ⊥
    nothing_in call inside = omega (arith, inside.1)

-- a live client that is not fallen
pub good_now : (base : List (List ℕ)) (trail : List Item) (place : Option Client) (own : Own) (client : Client) → IsGood base trail place own
    → place ≡ Some client → client.fallen ≡ None → IsGoodNow base trail own
good_now base trail place own client good live up =
    subst (IsGoodUnlessFallen base trail own) up (subst (λ one. IsGood base trail one own) live good)

-- its number is that of a client
pub live_is_client : (state : State) (who : ℕ) (client : Client) → InOrder state → client_at state.shared who ≡ Some client → IsClient who
live_is_client state who client order live =
    ⊎_elim
    (λ below. (⊎_elim (λ none. absurd (not_none (ap (client_at state.shared) (zero_is none) ∙ order.shaped.nobody))) (λ more. more) (cases_lt who 1), omega (arith, below)))
    (λ past. absurd (not_none (client_beyond state.shared who (subst (λ count. count ≤ who) (sym order.shaped.clients) past))))
    (cases_lt who 33)
  where
    not_none : client_at state.shared who ≡ None → ⊥
    not_none none = true≢false (ap is_some (sym live ∙ none))

    zero_is : who < 1 → who ≡ 0
    zero_is below = omega (arith, below)

-- and its rights are what it holds
pub rights_as_held : (state : State) (who : ℕ) (client : Client) → InOrder state → client_at state.shared who ≡ Some client → client.fallen ≡ None
    → AllowTheSame (rights_at state.shared who) (own_at state who).held
rights_as_held state who client order live up page right =
    ap (λ rights. allows rights page right) (rights_of_live state.shared who client live) ∙ agreed.1 page right
  where
    agreed : (client.cap ≡ (own_at state who).cap) × AllowTheSame client.rights (own_at state who).held
    agreed = subst (AgreesUnlessFallen client (own_at state who)) up (subst (λ place. Agrees place (own_at state who)) live (order.rights.agree who))

-- the own part that was set, and every other
module _ (state : State) (own : Own) (after : Shared) (below : own.who < length state.owns) where
  pub set_own : (number : ℕ) → number ≡ own.who → own_at (with_own (with_shared state after) own) number ≡ own
  set_own number same =
      ap (λ at. get_or ((with_own (with_shared state after) own).owns) at (blank number 0)) same ∙ get_or-set_same state.owns own.who own (blank number 0) below

  pub other_own : (number : ℕ) → number ≢ own.who → own_at (with_own (with_shared state after) own) number ≡ own_at state number
  other_own number apart = get_or-set_other state.owns own.who number own (blank number 0) apart

-- each client is good after a turn of one, where that one is and the others stay good
pub history_after : (state : State) (own : Own) (after : Shared) → own.who < length state.owns → IsLegal state.base after.trail
    → IsGood state.base after.trail (client_at after own.who) own
    → ((number : ℕ) → number ≢ own.who → IsGood state.base after.trail (client_at after number) (own_at state number))
    → HasLegalHistory (with_own (with_shared state after) own)
history_after state own after below legal good others = record { legal = legal; good = λ number. good_at number (cases_eq number own.who) }
  where
    good_at : (number : ℕ) → (number ≡ own.who) ⊎ (number ≢ own.who)
        → IsGood state.base after.trail (client_at after number) (own_at (with_own (with_shared state after) own) number)
    good_at number (inl same) =
        subst (IsGood state.base after.trail (client_at after number)) (sym (set_own state own after below number same))
        (subst (λ at. IsGood state.base after.trail (client_at after at) own) (sym same) good)
    good_at number (inr apart) =
        subst (IsGood state.base after.trail (client_at after number)) (sym (other_own state own after below number apart)) (others number apart)

pub in_owns : (state : State) (who : ℕ) (own : Own) → InOrder state → IsClient who → own.who ≡ (own_at state who).who → own.who < length state.owns
in_owns state who own order is same =
    subst (λ number. number < length state.owns) (sym (same ∙ order.shaped.numbers who)) (subst (λ count. who < count) (sym order.shaped.owns) (omega (arith, is.1)))

-- after a turn that records
pub history_recorded : (state : State) (who : ℕ) (after : Shared) (own_after : Own) → InOrder state → AreOfClients state.shared.trail → HasLegalHistory state → IsClient who
    → IsUp state.shared (own_at state who).who
    → ((number : ℕ) → number ≢ (own_at state who).who → client_at after number ≡ client_at state.shared number)
    → Records state.shared (own_at state who) after own_after
    → HasLegalHistory (with_own (with_shared state after) own_after)
history_recorded state who after own_after order clients history is up others records =
    history_after state own_after after (in_owns state who own_after order is records.who)
    (subst (IsLegal state.base) (sym records.trail) (legal_recorded state.base state.shared.trail own records.wants history.legal acting))
    (good_anywhere state.base after.trail (client_at after own_after.who) own_after (subst (λ trail. IsGoodNow state.base trail own_after) (sym records.trail)
    (good_own state.base state.shared.trail own own_after records.wants (subst IsClient (sym who_is) is) clients acting records.who records.pending records.pages)))
    (λ number apart.
    let away : number ≢ own.who = λ same. apart (same ∙ sym records.who) in
    subst (λ place. IsGood state.base after.trail place (own_at state number)) (sym (others number away))
    (other_good number away (client_at state.shared number) refl (history.good number)))
  where
    own : Own
    own = own_at state who

    who_is : own.who ≡ who
    who_is = order.shaped.numbers who

    live : client_at state.shared who ≡ Some up.client
    live = subst (λ number. client_at state.shared number ≡ Some up.client) who_is up.live

    acting : IsGoodNow state.base state.shared.trail own
    acting = good_now state.base state.shared.trail (client_at state.shared who) own up.client (history.good who) live up.up

    added : List Item
    added = state.shared.trail ++ as_items (added_by own.who own.pending records.wants)

    still : (number : ℕ) → number ≢ own.who → (client : Client) → client_at state.shared number ≡ Some client → client.fallen ≡ None
        → IsGoodNow state.base state.shared.trail (own_at state number) → IsGoodNow state.base added (own_at state number)
    still number away client is_there is_up good =
        good_other state.base state.shared.trail own (own_at state number) records.wants
        (subst IsClient (sym (order.shaped.numbers number)) (live_is_client state number client order is_there)) acting
        (λ page writes reads.
        away (sym (order.rights.exclusive own.who number page
        (ap (λ one. allows (rights_at state.shared one) page may.Write) who_is ∙ rights_as_held state who up.client order live up.up page may.Write ∙ writes)
        (rights_as_held state number client order is_there is_up page may.Read ∙ reads))))
        good

    other_good : (number : ℕ) → number ≢ own.who → (place : Option Client) → client_at state.shared number ≡ place
        → IsGood state.base state.shared.trail place (own_at state number) → IsGood state.base after.trail place (own_at state number)
    other_good number away None e good = tt
    other_good number away (Some client) e good = by_fallen client.fallen refl good
      where
        by_fallen : (fallen : Option Fallen) → client.fallen ≡ fallen → IsGoodUnlessFallen state.base state.shared.trail (own_at state number) fallen
            → IsGoodUnlessFallen state.base after.trail (own_at state number) fallen
        by_fallen None is_up good_one = subst (λ trail. IsGoodNow state.base trail (own_at state number)) (sym records.trail) (still number away client e is_up good_one)
        by_fallen (Some fallen) fell good_one = tt

-- after a turn that leaves its client with nothing, and the trail as it was
pub history_emptied : (state : State) (who : ℕ) (after : Shared) (own_after : Own) → InOrder state → HasLegalHistory state → IsClient who
    → own_after.who ≡ (own_at state who).who → own_after.pending ≡ [] → own_after.held ≡ [] → after.trail ≡ state.shared.trail
    → ((number : ℕ) → number ≢ (own_at state who).who → client_at after number ≡ client_at state.shared number)
    → HasLegalHistory (with_own (with_shared state after) own_after)
history_emptied state who after own_after order history is who_is pending held trail others =
    history_after state own_after after (in_owns state who own_after order is who_is) (subst (IsLegal state.base) (sym trail) history.legal)
    (good_anywhere state.base after.trail (client_at after own_after.who) own_after (good_empty state.base after.trail own_after pending held))
    (λ number apart.
    subst (λ place. IsGood state.base after.trail place (own_at state number)) (sym (others number (λ same. apart (same ∙ sym who_is))))
    (subst (λ items. IsGood state.base items (client_at state.shared number) (own_at state number)) (sym trail) (history.good number)))

-- a client that was not fallen before
abbrev pub WasUp : Shared → ℕ → Type 0
WasUp shared who = (client : Client) × (client_at shared who ≡ Some client) × (client.fallen ≡ None)

-- what is no turn of a client leaves the trail, or records an exact mark. Who is not fallen after it was not before, and a
-- rollback names none of them
pub data Marks (shared after : Shared) : Type 0 where
  stays : after.trail ≡ shared.trail → ((who : ℕ) (client : Client) → client_at after who ≡ Some client → client.fallen ≡ None → WasUp shared who) → Marks shared after
  commits : (lead : ℕ) (members : List ℕ) → IsExactMark shared.trail (Commit lead members) → after.trail ≡ shared.trail ++ item.Mark (Commit lead members) ∷ []
      → ((who : ℕ) (client : Client) → client_at after who ≡ Some client → client.fallen ≡ None → WasUp shared who) → Marks shared after
  rolls_back : (mark : Mark) → IsExactMark shared.trail mark → after.trail ≡ shared.trail ++ item.Mark mark ∷ []
      → ((who : ℕ) (client : Client) → client_at after who ≡ Some client → client.fallen ≡ None → WasUp shared who × (has_member who (members_of mark) ≡ false)) → Marks shared after

-- each client is good after it, where those that are not fallen are
history_by : (state : State) (after : Shared) → IsLegal state.base after.trail
    → ((who : ℕ) (client : Client) → client_at after who ≡ Some client → client.fallen ≡ None → IsGoodNow state.base after.trail (own_at state who))
    → HasLegalHistory (with_shared state after)
history_by state after legal good = record { legal = legal; good = λ who. good_at who (client_at after who) refl }
  where
    good_at : (who : ℕ) (place : Option Client) → client_at after who ≡ place → IsGood state.base after.trail place (own_at state who)
    good_at who None e = tt
    good_at who (Some client) e = by_fallen client.fallen refl
      where
        by_fallen : (fallen : Option Fallen) → client.fallen ≡ fallen → IsGoodUnlessFallen state.base after.trail (own_at state who) fallen
        by_fallen None up = good who client e up
        by_fallen (Some fallen) fell = tt

was_good : (state : State) (who : ℕ) → HasLegalHistory state → WasUp state.shared who → IsGoodNow state.base state.shared.trail (own_at state who)
was_good state who history was =
    good_now state.base state.shared.trail (client_at state.shared who) (own_at state who) was.0 (history.good who) was.1 was.2

pub history_marked : (state : State) (after : Shared) → InOrder state → HasLegalHistory state → Marks state.shared after → HasLegalHistory (with_shared state after)
history_marked state after order history (stays trail up) =
    history_by state after (subst (IsLegal state.base) (sym trail) history.legal)
    (λ who client live is. subst (λ items. IsGoodNow state.base items (own_at state who)) (sym trail) (was_good state who history (up who client live is)))
history_marked state after order history (commits lead members exact trail up) =
    history_by state after (subst (IsLegal state.base) (sym trail) (legal_after_mark state.base state.shared.trail (Commit lead members) history.legal))
    (λ who client live is.
    subst (λ items. IsGoodNow state.base items (own_at state who)) (sym trail)
    (good_behind_commit state.base state.shared.trail lead members exact (own_at state who) (was_good state who history (up who client live is))))
history_marked state after order history (rolls_back mark exact trail up) =
    history_by state after (subst (IsLegal state.base) (sym trail) (legal_after_mark state.base state.shared.trail mark history.legal))
    (λ who client live is.
    let was = up who client live is in
    subst (λ items. IsGoodNow state.base items (own_at state who)) (sym trail)
    (good_behind_rollback state.base state.shared.trail mark exact (own_at state who)
    (ap (λ number. has_member number (members_of mark)) (order.shaped.numbers who) ∙ was.1) (was_good state who history was.0)))
