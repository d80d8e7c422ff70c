use Rattle.std.proofs.Common.{◌≡◌, ◌≢◌, ◌<◌, ℕ, List, [], true, cond, ◌==◌, length, map, length-set, get_or-set_same, get_or-set_other, refl, sym, ap, ◌∙◌, subst, ⊎_elim, arith}
use Rattle.std.specs.Prelude.{Option, None, IsSome, MatchOption, slice_set, slice_index_or}
use Rattle.std.proofs.lemmas.Bool.{cases_eq, ne_eqb}
use Rattle.casper_words.specs.Crew.{IsClient}
use Rattle.casper_words.specs.declared.page.Right.{Right}
use Rattle.casper_words.specs.declared.page.Right.TheVariants as may
use Rattle.casper_dir.proofs.EqualRights.{writer_holds_to_write}
use Rattle.casper_gather.specs.Bookkeeping.{without_asker}
use Rattle.casper_model.specs.Client.{Client}
use Rattle.casper_model.specs.Held.{allows}
use Rattle.casper_model.specs.Leave.{absent}
use Rattle.casper_model.specs.Own.{Own, blank}
use Rattle.casper_model.specs.Shared.{Shared, client_at, rights_at, of_client}
use Rattle.casper_model.proofs.Places.{client_placed, client_unplaced}
use Rattle.casper_turns.proofs.Lists.{not_some}
use Rattle.casper_turns.proofs.Stages.{kept_absent}
use Rattle.casper_hub.specs.HubView.{HubView, client_in, frame_in, right_in}
use Rattle.casper_hub.specs.Losing.{MayWriteNothing, BecomesAbsent}
use Rattle.casper_hub.specs.Shows.{permits, Shows, ShowsClient}
use Rattle.casper_hub.specs.Sound.{IsSound, IsWellFormed, Stands}
use Rattle.casper_hub.specs.Words.{live_value, stored_value, AreWords, FramesAreRight}
use Rattle.casper_hub.proofs.Changing.{formed_beside, formed_changed, same_rights}
use Rattle.casper_hub.proofs.Giving.{writer_stays}
use Rattle.casper_hub.proofs.StandsFor.{stands_for, standing}

-- A hub of which one client became absent.

module _ (who : ℕ) (hub after : HubView) (gone : BecomesAbsent who hub after) (is : IsClient who) (formed : IsWellFormed hub) where
  -- the hub without the client
  abbrev left : HubView
  left = record hub { clients = slice_set hub.clients who None; stabilisations = map (without_asker who) hub.stabilisations; pages = after.pages }

  -- the place of the client, and every other
  place_gone : client_in left who ≡ None
  place_gone = let most = is.1 in let long = formed.places in get_or-set_same hub.clients who None None (omega (arith, most, long))

  place_stays : (other : ℕ) → other ≢ who → client_in left other ≡ client_in hub other
  place_stays other apart = get_or-set_other hub.clients who other None None apart

  pub gone_from : client_in after who ≡ None
  gone_from = ap (λ (h : HubView). client_in h who) gone.hub_is ∙ place_gone

  right_gone : (page : ℕ) → right_in after who page ≡ None
  right_gone page =
      let here : (who == who) ≡ true = grind arith in
      gone.rights who page is ∙ ap (λ b. cond {A = Option Right} b None (right_in hub who page)) here

  right_stays : (other page : ℕ) → other ≢ who → right_in after other page ≡ right_in hub other page
  right_stays other page apart =
      same_rights hub.pages.rights after.pages.rights page other formed.holders gone.holders
      (λ client. gone.rights other page client ∙ ap (λ b. cond {A = Option Right} b None (right_in hub other page)) (ne_eqb other who apart))

  -- it stands for what the machine's leaving leaves
  pub shows_absent : (shared : Shared) (own : Own) → own.who ≡ who → Shows shared hub → Shows (absent (record { shared = shared; own = own })).shared after
  shows_absent shared own same shows = subst (Shows then_) (sym gone.hub_is) (record {
    trail = shows.trail;
    limit = shows.limit;
    pages = shows.pages ∙ sym gone.pages;
    places = length-set shared.clients own.who None ∙ shows.places;
    stabilisations = ap (λ n. map (without_asker n) shared.stabilisations) same ∙ ap (map (without_asker who)) shows.stabilisations;
    clients = λ other. ⊎_elim
        (λ here.
        subst (λ n. ShowsClient hub.trail (client_at then_ n) (client_in left n)) (sym here)
        (subst (λ place. ShowsClient hub.trail place (client_in left who)) (sym absent_there)
        (subst (λ shown. ShowsClient hub.trail None shown) (sym place_gone) tt)))
        (λ apart.
        subst (λ place. ShowsClient hub.trail place (client_in left other)) (sym (other_there other apart))
        (subst (λ shown. ShowsClient hub.trail (client_at shared other) shown) (sym (place_stays other apart)) (shows.clients other)))
        (cases_eq other who);
    rights = λ other page right. ⊎_elim
        (λ here.
        ap (λ n. allows (rights_at then_ n) page right) here ∙ ap (λ place. allows (of_client [] (λ (client : Client). client.rights) place) page right) absent_there
        ∙ ap (λ one. permits one right) (sym (ap (λ n. right_in after n page) here ∙ right_gone page)))
        (λ apart.
        ap (λ place. allows (of_client [] (λ (client : Client). client.rights) place) page right) (other_there other apart) ∙ shows.rights other page right
        ∙ ap (λ one. permits one right) (sym (right_stays other page apart)))
        (cases_eq other who);
  })
    where
      then_ : Shared
      then_ = (absent (record { shared = shared; own = own })).shared

      absent_there : client_at then_ who ≡ None
      absent_there =
          ap (client_at then_) (sym same)
          ∙ client_placed own.who None shared (subst (λ count. own.who < count) (sym shows.places) (subst (λ n. n < 33) (sym same) (omega (arith, is.1))))

      other_there : (other : ℕ) → other ≢ who → client_at then_ other ≡ client_at shared other
      other_there other apart = client_unplaced own.who None shared other (λ here. apart (here ∙ same))

  -- the server has the frames that it had
  frame_stays : (page : ℕ) → IsSome (frame_in hub.pages page) → IsSome (frame_in after.pages page)
  frame_stays page framed = subst (λ frames. IsSome (slice_index_or frames page None)) (sym gone.frames) framed

  -- so it is sound
  formed_absent : IsWellFormed after
  formed_absent =
      subst IsWellFormed (sym gone.hub_is)
      (formed_beside (record hub { clients = slice_set hub.clients who None; pages = after.pages }) (map (without_asker who) hub.stabilisations)
      (formed_changed hub hub.trail who None after.pages formed is (λ ask inside. absurd (omega (arith, inside.1))) gone.pages (ap length gone.frames) gone.holders
      (λ client page one differ. right_stays client page differ)
      (λ page writes. absurd (not_some may.Write (sym (right_gone page) ∙ writes)))
      frame_stays (λ page modified. frame_stays page (formed.modified page modified))))

  stands_absent : Stands hub → Stands after
  stands_absent stands =
      let before = stands_for hub stands in
      standing after (record {
        shared = (absent (record { shared = before.shared; own = blank who 0 })).shared;
        shows = shows_absent before.shared (blank who 0) refl before.shows;
        good = (kept_absent before.shared (blank who 0) before.good is).good;
      })

  pub sound_absent : Stands hub → IsSound after
  sound_absent stands = record { formed = formed_absent; stands = stands_absent stands }

  -- its frames are right where the client held no page for writing
  pub frames_absent : (base : List (List ℕ)) → MayWriteNothing hub who → FramesAreRight base hub → FramesAreRight base after
  frames_absent base unwritten right = subst (FramesAreRight base) (sym gone.hub_is) (λ page none.
      subst
      (λ (frames : List (Option (List ℕ))). MatchOption (slice_index_or frames page None) ((word : ℕ) → word < 512 → live_value base hub page word ≡ stored_value base hub page word)
      (λ words. AreWords (live_value base hub) page words))
      (sym gone.frames)
      (right page
      (λ writer writes.
      none writer
      (writer_stays hub.pages.rights after.pages.rights page writer formed.holders
      (λ client.
      right_stays writer page
      (λ here. unwritten page (ap (λ n. right_in hub n page) (sym here) ∙ (writer_holds_to_write hub.pages.rights page writer).0 writes)))
      writes))))
