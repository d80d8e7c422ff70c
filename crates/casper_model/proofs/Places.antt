use Rattle.std.proofs.Common.{◌≡◌, ◌≢◌, ℕ, zero, suc, ◌+◌, ◌<◌, ◌≤◌, List, [], ◌∷◌, cond, length, ◌==◌, refl, sym, ap, ◌∙◌, get_or-set_same, get_or-set_other, arith, eq-eqb, ne_eqb}
use Rattle.std.specs.Prelude.{Option, None, Some, option_map, slice_index_or}
use Rattle.std.proofs.lemmas.Bool.{cond-true, cond-false}
use Rattle.std.proofs.lemmas.List.{get_or_past}
use Rattle.casper_model.specs.Client.{Client}
use Rattle.casper_model.specs.Shared.{Shared, client_at, change_from, each_client, change_client, place_client}

-- a place of a list in which each client was changed
place_changed : (change : ℕ → Client → Client) (number : ℕ) (places : List (Option Client)) (at : ℕ)
    → slice_index_or (change_from number change places) at None ≡ option_map (change (number + at)) (slice_index_or places at None)
place_changed change number [] at = refl
place_changed change number (place ∷ places) zero = let e : number + 0 ≡ number = omega arith in ap (λ n. option_map (change n) place) (sym e)
place_changed change number (place ∷ places) (suc at) =
    let e : suc number + at ≡ number + suc at = omega arith in
    place_changed change (suc number) places at ∙ ap (λ n. option_map (change n) (slice_index_or places at None)) e

length_changed : (change : ℕ → Client → Client) (number : ℕ) (places : List (Option Client)) → length (change_from number change places) ≡ length places
length_changed change number [] = refl
length_changed change number (place ∷ places) = ap suc (length_changed change (suc number) places)

-- a client once each was changed
pub client_each : (change : ℕ → Client → Client) (shared : Shared) (who : ℕ)
    → client_at (each_client change shared) who ≡ option_map (change who) (client_at shared who)
client_each change shared who =
    let e : 0 + who ≡ who = omega arith in
    place_changed change 0 shared.clients who ∙ ap (λ n. option_map (change n) (client_at shared who)) e

pub length_each : (change : ℕ → Client → Client) (shared : Shared) → length (each_client change shared).clients ≡ length shared.clients
length_each change shared = length_changed change 0 shared.clients

chosen_same : (who : ℕ) (change : Client → Client) (place : Option Client)
    → option_map (λ client. cond (who == who) (change client) client) place ≡ option_map change place
chosen_same who change None = refl
chosen_same who change (Some client) = ap Some (cond-true (who == who) (change client) client (eq-eqb who who refl))

chosen_other : (number who : ℕ) (change : Client → Client) → number ≢ who → (place : Option Client)
    → option_map (λ client. cond (number == who) (change client) client) place ≡ place
chosen_other number who change apart None = refl
chosen_other number who change apart (Some client) = ap Some (cond-false (number == who) (change client) client (ne_eqb number who apart))

-- the client that was changed, and every other
pub client_changed : (who : ℕ) (change : Client → Client) (shared : Shared) → client_at (change_client who change shared) who ≡ option_map change (client_at shared who)
client_changed who change shared =
    client_each (λ number client. cond (number == who) (change client) client) shared who ∙ chosen_same who change (client_at shared who)

pub client_unchanged : (who : ℕ) (change : Client → Client) (shared : Shared) (number : ℕ) → number ≢ who
    → client_at (change_client who change shared) number ≡ client_at shared number
client_unchanged who change shared number apart =
    client_each (λ number client. cond (number == who) (change client) client) shared number ∙ chosen_other number who change apart (client_at shared number)

-- the client whose place was set, and every other
pub client_placed : (who : ℕ) (place : Option Client) (shared : Shared) → who < length shared.clients → client_at (place_client who place shared) who ≡ place
client_placed who place shared below = get_or-set_same shared.clients who place None below

pub client_unplaced : (who : ℕ) (place : Option Client) (shared : Shared) (number : ℕ) → number ≢ who
    → client_at (place_client who place shared) number ≡ client_at shared number
client_unplaced who place shared number apart = get_or-set_other shared.clients who number place None apart

pub client_beyond : (shared : Shared) (who : ℕ) → length shared.clients ≤ who → client_at shared who ≡ None
client_beyond shared who past = get_or_past shared.clients who None past
