use Rattle.std.proofs.Common.{◌≡◌, ◌≢◌, ◌<◌, ℕ, List, [], ◌++◌, length, take, refl, sym, ap, ◌∙◌, subst, ⊎_elim, arith}
use Rattle.std.specs.Prelude.{Option, None, Some, option_map, option_and_then}
use Rattle.std.proofs.lemmas.Bool.{cases_eq}
use Rattle.std.proofs.lemmas.List.{take-append-le}
use Rattle.casper_words.specs.Crew.{IsClient}
use Rattle.casper_words.specs.declared.page.Right.{Right}
use Rattle.casper_trail.specs.declared.item.Item.{Item}
use Rattle.casper_trail.specs.Parts.{live_entries}
use Rattle.casper_dir.specs.Rights.{AreAllClients}
use Rattle.casper_model.specs.Client.{Client}
use Rattle.casper_model.specs.Held.{allows}
use Rattle.casper_model.specs.Shared.{Shared, client_at, rights_at, of_client}
use Rattle.casper_hub.specs.HubView.{HubView, ClientView, FallenView, client_in, right_in, page_count}
use Rattle.casper_hub.proofs.Changing.{same_rights}
use Rattle.casper_hub.specs.Shows.{permits, fallen_of, Shows, ShowsClient}
use Rattle.casper_hub.proofs.Whole.{Whole}

-- what a turn of one client leaves of the others
pub record LeavesOthers (who : ℕ) (shared shared_after : Shared) (hub after : HubView) : Type 0 where
  pub trail : shared_after.trail ≡ after.trail
  pub more : List Item
  pub grows : after.trail ≡ hub.trail ++ more
  pub limit : shared_after.limit ≡ shared.limit
  pub limit_too : after.limit ≡ hub.limit
  pub pages : shared_after.pages ≡ shared.pages
  pub pages_too : page_count after ≡ page_count hub
  pub stabilisations : shared_after.stabilisations ≡ after.stabilisations
  pub places : length shared_after.clients ≡ length shared.clients
  pub clients : (other : ℕ) → other ≢ who → client_at shared_after other ≡ client_at shared other
  pub clients_too : (other : ℕ) → other ≢ who → client_in after other ≡ client_in hub other
  pub holders : AreAllClients after.pages.rights
  pub rights : (other page : ℕ) → IsClient other → other ≢ who → right_in after other page ≡ right_in hub other page

-- a client that was fallen goes on to see what it saw
falls_the_same : (hub after : HubView) (more : List Item) → after.trail ≡ hub.trail ++ more → (fallen : Option FallenView)
    → ((one : FallenView) → fallen ≡ Some one → one.mark < length hub.trail) → option_map (fallen_of hub.trail) fallen ≡ option_map (fallen_of after.trail) fallen
falls_the_same hub after more grows None marked = refl
falls_the_same hub after more grows (Some fallen) marked =
    let below = marked fallen refl in
    ap (λ items. Some (record { mark = fallen.mark; dropped = fallen.dropped; seen = live_entries items }))
    (sym (ap (take fallen.mark) grows ∙ take-append-le fallen.mark hub.trail more (omega (arith, below))))

pub shown_by_others : (hub after : HubView) (more : List Item) → after.trail ≡ hub.trail ++ more → (place : Option Client) (shown : Option ClientView)
    → ((client : ClientView) (fallen : FallenView) → shown ≡ Some client → client.fallen ≡ Some fallen → fallen.mark < length hub.trail)
    → ShowsClient hub.trail place shown → ShowsClient after.trail place shown
shown_by_others hub after more grows None None marked shows = shows
shown_by_others hub after more grows None (Some shown) marked shows = shows
shown_by_others hub after more grows (Some client) None marked shows = shows
shown_by_others hub after more grows (Some client) (Some shown) marked shows = record {
  cap = shows.cap;
  asks = shows.asks;
  kept = shows.kept;
  fallen = shows.fallen ∙ falls_the_same hub after more grows shown.fallen (λ one fell. marked shown one refl fell);
}

-- a hub stands for the machine after a turn where it shows the client whose turn it was, with its rights
pub shows_after : (who : ℕ) (shared shared_after : Shared) (hub after : HubView) → Shows shared hub → Whole hub → LeavesOthers who shared shared_after hub after
    → ShowsClient after.trail (client_at shared_after who) (client_in after who)
    → ((page : ℕ) (right : Right) → allows (rights_at shared_after who) page right ≡ permits (right_in after who page) right) → Shows shared_after after
shows_after who shared shared_after hub after shows sound leaves acting acting_rights = record {
  trail = leaves.trail;
  limit = leaves.limit ∙ shows.limit ∙ sym leaves.limit_too;
  pages = leaves.pages ∙ shows.pages ∙ sym leaves.pages_too;
  places = leaves.places ∙ shows.places;
  stabilisations = leaves.stabilisations;
  clients = λ other. ⊎_elim (λ is. subst (λ n. ShowsClient after.trail (client_at shared_after n) (client_in after n)) (sym is) acting) (of_other other) (cases_eq other who);
  rights = λ other page right.
      ⊎_elim (λ is. subst (λ n. allows (rights_at shared_after n) page right ≡ permits (right_in after n page) right) (sym is) (acting_rights page right))
      (rights_of_other other page right) (cases_eq other who);
}
  where
    of_other : (other : ℕ) → other ≢ who → ShowsClient after.trail (client_at shared_after other) (client_in after other)
    of_other other apart =
        subst (λ place. ShowsClient after.trail place (client_in after other)) (sym (leaves.clients other apart))
        (subst (λ shown. ShowsClient after.trail (client_at shared other) shown) (sym (leaves.clients_too other apart))
        (shown_by_others hub after leaves.more leaves.grows (client_at shared other) (client_in hub other)
        (λ client fallen is fell. sound.marked other fallen (ap (option_and_then (λ (one : ClientView). one.fallen)) is ∙ fell))
        (shows.clients other)))

    rights_of_other : (other page : ℕ) (right : Right) → other ≢ who → allows (rights_at shared_after other) page right ≡ permits (right_in after other page) right
    rights_of_other other page right apart =
        ap (λ place. allows (of_client [] (λ (client : Client). client.rights) place) page right) (leaves.clients other apart) ∙ shows.rights other page right
        ∙ ap (λ one. permits one right)
        (sym (same_rights hub.pages.rights after.pages.rights page other sound.holders leaves.holders (λ is. leaves.rights other page is apart)))
