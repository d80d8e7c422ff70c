use Rattle.std.proofs.Common.{◌≡◌, ◌≢◌, ◌⊎◌, ℕ, Bool, true, false, cond, length, map, refl, sym, ap, ◌∙◌, inl, inr, true≢false}
use Rattle.std.specs.Prelude.{Option, None, Some, option_map, unwrap_or, is_some}
use Rattle.casper_words.specs.declared.page.Right.TheVariants as may
use Rattle.casper_words.specs.declared.page.Want.{Want}
use Rattle.casper_model.specs.Held.{lowered}
use Rattle.casper_model.specs.Client.{Client}
use Rattle.casper_model.specs.Stabilisation.{Stabilisation}
use Rattle.casper_model.specs.Shared.{Shared, client_at, rights_at, change_client}
use Rattle.casper_model.specs.Own.{Own}
use Rattle.casper_model.specs.Both.{Both, agreed}
use Rattle.casper_model.specs.Opening.{kept_dropped, recorded, begun, kept_of, given_up, handed_in, handed_in_to, gathering_of, opened, is_given_up_wholly, is_given_up_to_reading}
use Rattle.casper_model.specs.Rights.{OneWriterOrReaders}
use Rattle.casper_model.proofs.Places.{client_changed, client_unchanged, length_each}
use Rattle.casper_model.proofs.HeldRights.{AllowsNoMore, lowered_allow_no_more, kept_allow_no_more}

-- a client is live and not fallen
pub record IsUp (shared : Shared) (who : ℕ) : Type 0 where
  pub client : Client
  pub live : client_at shared who ≡ Some client
  pub up : client.fallen ≡ None

-- and what is known of it is what its own part has
pub record IsKnown (shared : Shared) (own : Own) : Type 0 where
  pub client : Client
  pub live : client_at shared own.who ≡ Some client
  pub up : client.fallen ≡ None
  pub cap : client.cap ≡ own.cap
  pub rights : client.rights ≡ own.held

pub up_known : (shared : Shared) (own : Own) → IsKnown shared own → IsUp shared own.who
up_known shared own known = record { client = known.client; live = known.live; up = known.up }

pub up_changed : (who : ℕ) (change : Client → Client) (shared : Shared) → ((client : Client) → client.fallen ≡ None → (change client).fallen ≡ None)
    → IsUp shared who → IsUp (change_client who change shared) who
up_changed who change shared stays is = record {
  client = change is.client;
  live = client_changed who change shared ∙ ap (option_map change) is.live;
  up = stays is.client is.up;
}

-- the two parts agree after each part of a turn
pub known_agreed : (shared : Shared) (own : Own) → IsUp shared own.who → IsKnown (agreed shared own).shared own
known_agreed shared own is =
    let change : Client → Client = λ client. record client { cap = own.cap; rights = own.held } in
    record {
      client = change is.client;
      live = client_changed own.who change shared ∙ ap (option_map change) is.live;
      up = is.up;
      cap = refl;
      rights = refl;
    }

pub others_agreed : (shared : Shared) (own : Own) (number : ℕ) → number ≢ own.who → client_at (agreed shared own).shared number ≡ client_at shared number
others_agreed shared own number apart = client_unchanged own.who (λ client. record client { cap = own.cap; rights = own.held }) shared number apart

pub places_changed : (who : ℕ) (change : Client → Client) (shared : Shared) → length (change_client who change shared).clients ≡ length shared.clients
places_changed who change shared = length_each _ shared

pub places_agreed : (shared : Shared) (own : Own) → length (agreed shared own).shared.clients ≡ length shared.clients
places_agreed shared own = places_changed own.who (λ client. record client { cap = own.cap; rights = own.held }) shared

-- through an opening
known_handed_in : (both : Both) (one : Option Stabilisation) → IsKnown both.shared both.own → IsKnown (handed_in_to both one).shared (handed_in_to both one).own
known_handed_in both None known = known
known_handed_in both (Some one) known =
    let after : IsKnown (handed_in both).shared (handed_in both).own =
    known_agreed both.shared (record (both.own) { held = map lowered both.own.held }) (up_known both.shared both.own known) in
    record { client = after.client; live = after.live; up = after.up; cap = after.cap; rights = after.rights }

pub known_opened : (shared : Shared) (own : Own) → IsUp shared own.who → IsKnown (opened shared own).shared (opened shared own).own
known_opened shared own is =
    let first = recorded (kept_dropped own.who shared) own in
    let second = begun shared own in
    let third = given_up second in
    let dropped = up_changed own.who (λ client. record client { kept = None }) shared (λ client up. up) is in
    let one : IsKnown first.shared first.own =
    known_agreed (record (kept_dropped own.who shared) { trail = first.shared.trail }) first.own
    (record { client = dropped.client; live = dropped.live; up = dropped.up }) in
    let two : IsKnown second.shared second.own = known_agreed first.shared second.own (up_known first.shared first.own one) in
    let three : IsKnown third.shared third.own = known_agreed second.shared third.own (up_known second.shared second.own two) in
    known_handed_in third (gathering_of third.shared third.own.who) three

others_handed_in : (both : Both) (one : Option Stabilisation) (number : ℕ) → number ≢ both.own.who
    → client_at (handed_in_to both one).shared number ≡ client_at both.shared number
others_handed_in both None number apart = refl
others_handed_in both (Some one) number apart = others_agreed both.shared (record (both.own) { held = map lowered both.own.held }) number apart

pub others_opened : (shared : Shared) (own : Own) (number : ℕ) → number ≢ own.who → client_at (opened shared own).shared number ≡ client_at shared number
others_opened shared own number apart =
    let first = recorded (kept_dropped own.who shared) own in
    let second = begun shared own in
    let third = given_up second in
    others_handed_in third (gathering_of third.shared third.own.who) number apart
    ∙ others_agreed second.shared third.own number apart
    ∙ others_agreed first.shared second.own number apart
    ∙ others_agreed (record (kept_dropped own.who shared) { trail = first.shared.trail }) first.own number apart
    ∙ client_unchanged own.who (λ client. record client { kept = None }) shared number apart

places_handed_in : (both : Both) (one : Option Stabilisation) → length (handed_in_to both one).shared.clients ≡ length both.shared.clients
places_handed_in both None = refl
places_handed_in both (Some one) = places_agreed both.shared (record (both.own) { held = map lowered both.own.held })

pub places_opened : (shared : Shared) (own : Own) → length (opened shared own).shared.clients ≡ length shared.clients
places_opened shared own =
    let first = recorded (kept_dropped own.who shared) own in
    let second = begun shared own in
    let third = given_up second in
    places_handed_in third (gathering_of third.shared third.own.who)
    ∙ places_agreed second.shared third.own
    ∙ places_agreed first.shared second.own
    ∙ places_agreed (record (kept_dropped own.who shared) { trail = first.shared.trail }) first.own
    ∙ places_changed own.who (λ client. record client { kept = None }) shared

-- what a client keeps of a page is the page as it was, or for reading
pub kept_or_lowered : (wholly reading : Bool) (want left : Want) → cond wholly None (Some (cond reading (lowered want) want)) ≡ Some left
    → (left ≡ want) ⊎ (left ≡ lowered want)
kept_or_lowered true reading want left kept = absurd (true≢false (sym (ap is_some kept)))
kept_or_lowered false true want left kept = inr (ap (λ one. unwrap_or one want) (sym kept))
kept_or_lowered false false want left kept = inl (ap (λ one. unwrap_or one want) (sym kept))

pub given_up_allows_no_more : (both : Both) → AllowsNoMore (given_up both).own.held both.own.held
given_up_allows_no_more both =
    kept_allow_no_more (kept_of both.shared both.own.who)
    (λ want left kept.
    kept_or_lowered (is_given_up_wholly both.shared both.own.who want) (is_given_up_to_reading both.shared both.own.who want) want left kept)
    both.own.held

handed_in_allows_no_more : (both : Both) (one : Option Stabilisation) → AllowsNoMore (handed_in_to both one).own.held both.own.held
handed_in_allows_no_more both None page right found = found
handed_in_allows_no_more both (Some one) page right found = lowered_allow_no_more both.own.held page right found

pub opened_allows_no_more : (shared : Shared) (own : Own) → AllowsNoMore (opened shared own).own.held own.held
opened_allows_no_more shared own page right found =
    let third = given_up (begun shared own) in
    given_up_allows_no_more (begun shared own) page right (handed_in_allows_no_more third (gathering_of third.shared third.own.who) page right found)

-- where no client is allowed more, one writer or many readers stay
pub exclusive_with_less : (before after : Shared) → ((who : ℕ) → AllowsNoMore (rights_at after who) (rights_at before who)) → OneWriterOrReaders before → OneWriterOrReaders after
exclusive_with_less before after less exclusive one other page writes holds =
    exclusive one other page (less one page may.Write writes) (less other page may.Read holds)
