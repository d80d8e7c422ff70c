use Rattle.std.proofs.Common.{◌≡◌, ℕ, ◌<◌, ◌^◌, List, [], cond, length, set, replicate, get_or, get_or-set_other, refl, sym, ap, ◌∙◌, subst, ⊎_elim, true≢false, Contains, arith}
use Rattle.std.specs.Prelude.{Option, None, Some, IsSome, is_some}
use Rattle.std.proofs.lemmas.Bool.{cases_lt, cond_both}
use Rattle.std.proofs.lemmas.List.{get_or-replicate, get_or_past, length-replicate, length-set}
use Rattle.casper_words.specs.declared.page.Want.{Want}
use Rattle.casper_trail.specs.declared.item.Item.{Item}
use Rattle.casper_trail.specs.Modified.{is_modified}
use Rattle.casper_dir.specs.Rights.{right_at, AreAllClients}
use Rattle.casper_model.specs.Client.{Client}
use Rattle.casper_model.specs.Held.{allows}
use Rattle.casper_model.specs.Shared.{new_shared, of_client}
use Rattle.casper_turns.proofs.Start.{start_good}
use Rattle.casper_model.specs.Stabilisation.{Stabilisation}
use Rattle.casper_hub.specs.HubView.{ClientView, PagesView, place_in, asks_of, frame_in}
use Rattle.casper_hub.specs.HubFields.{hub_of}
use Rattle.casper_hub.specs.Shows.{permits, Shows, ShowsClient}
use Rattle.casper_hub.specs.Sound.{IsSound}
use Rattle.casper_hub.proofs.StandsFor.{stands_for, standing}
use Rattle.casper_hub.proofs.Supplied.{shows_beside_frames}

-- of places that are all absent each is
absent_at : {X : Type 0} (count who : ℕ) → get_or (replicate {A = Option X} count None) who None ≡ None
absent_at {X} count who =
    ⊎_elim
    (λ below. get_or-replicate {A = Option X} count who None None below)
    (λ past. let long : length (replicate {A = Option X} count None) ≡ count = length-replicate count None in get_or_past (replicate {A = Option X} count None) who None (omega (arith, past, long)))
    (cases_lt who count)

-- where nobody is live each place is absent
pub nobody_live : (places : List (Option ClientView)) → places ≡ replicate 33 None → (who : ℕ) → place_in places who ≡ None
nobody_live places are who = ap (λ (l : List (Option ClientView)). place_in l who) are ∙ absent_at 33 who

module _ (count limit : ℕ) (stabilisations : List Stabilisation) (none : stabilisations ≡ []) (trail : List Item) (places : List (Option ClientView)) (pages : PagesView) (empty : trail ≡ []) (are : places ≡ replicate 33 None)
    (long : length pages.rights ≡ count) (free : (client page : ℕ) → right_at pages.rights client page ≡ None) where
  -- the hub of a session that begins stands for the machine as a session begins
  pub shows_new : Shows (new_shared count limit) (hub_of trail limit stabilisations places pages)
  shows_new = record {
    trail = sym empty;
    limit = refl;
    pages = sym long;
    places = length-replicate {A = Option Client} 33 None;
    stabilisations = sym none;
    clients = λ who.
        subst (λ (place : Option Client). ShowsClient trail place (place_in places who)) (sym (absent_at 33 who))
        (subst (λ (shown : Option ClientView). ShowsClient trail None shown) (sym (nobody_live places are who)) tt);
    rights = λ who page right.
        ap (λ (place : Option Client). allows (of_client [] (λ client. client.rights) place) page right) (absent_at 33 who)
        ∙ ap (λ one. permits one right) (sym (free who page));
  }

  -- and is sound
  pub sound_new : AreAllClients pages.rights → pages.frames ≡ replicate count None → count < 2 ^ 32 → limit < 2 ^ 32 → IsSound (hub_of trail limit stabilisations places pages)
  sound_new holders frames short fits = record {
    formed = record {
      places = ap length are ∙ length-replicate {A = Option ClientView} 33 None;
      holders = holders;
      frames = ap length frames ∙ length-replicate {A = Option (List ℕ)} count None ∙ sym long;
      short = subst (λ n. n < 2 ^ 32) (sym long) short;
      fits = fits;
      framed = λ who page is. absurd (true≢false (ap is_some (sym is ∙ free who page)));
      modified = λ page is. absurd (true≢false (sym is ∙ ap (λ items. is_modified items page) empty));
      asked = λ who ask inside.
          let none : asks_of (place_in places who) ≡ [] = ap asks_of (nobody_live places are who) in
          let among : Contains [] ask = subst (λ (l : List Want). Contains l ask) none inside in
          absurd (omega (arith, among.1));
    };
    stands = standing (hub_of trail limit stabilisations places pages) (record { shared = new_shared count limit; shows = shows_new; good = start_good count limit });
  }

-- a frame that the server has stays as another is supplied
frame_stays : (frames : List (Option (List ℕ))) (page : ℕ) (frame : List ℕ) (other : ℕ) → IsSome (get_or frames other None)
    → IsSome (get_or (cond (is_some (get_or frames page None)) frames (set frames page (Some frame))) other None)
frame_stays frames page frame other is =
    cond_both (is_some (get_or frames page None)) frames (set frames page (Some frame)) (λ (l : List (Option (List ℕ))). IsSome (get_or l other None)) (λ _. is)
    (λ gone. subst (λ (o : Option (List ℕ)). IsSome o) (sym (get_or-set_other frames page other (Some frame) None
    (λ same. true≢false (sym is ∙ ap (λ n. is_some (get_or frames n None)) same ∙ gone)))) is)

-- as many frames as before
frames_supplied : (frames : List (Option (List ℕ))) (page : ℕ) (frame : List ℕ)
    → length (cond (is_some (get_or frames page None)) frames (set frames page (Some frame))) ≡ length frames
frames_supplied frames page frame =
    cond_both (is_some (get_or frames page None)) frames (set frames page (Some frame)) (λ (l : List (Option (List ℕ))). length l ≡ length frames) (λ _. refl) (λ _. length-set frames page (Some frame))

-- a hub stays sound as a frame is supplied
pub sound_supplied : (trail : List Item) (limit : ℕ) (stabilisations : List Stabilisation) (places : List (Option ClientView)) (pages after : PagesView) (page : ℕ) (frame : List ℕ) → IsSound (hub_of trail limit stabilisations places pages)
    → after.rights ≡ pages.rights → after.frames ≡ cond (is_some (frame_in pages page)) pages.frames (set pages.frames page (Some frame)) → IsSound (hub_of trail limit stabilisations places after)
sound_supplied trail limit stabilisations places pages after page frame sound rights frames = record {
  formed = record {
    places = sound.formed.places;
    holders = subst AreAllClients (sym rights) sound.formed.holders;
    frames = ap length frames ∙ frames_supplied pages.frames page frame ∙ sound.formed.frames ∙ sym (ap length rights);
    short = subst (λ n. n < 2 ^ 32) (sym (ap length rights)) sound.formed.short;
    fits = sound.formed.fits;
    framed = λ who other is.
        subst (λ (l : List (Option (List ℕ))). IsSome (get_or l other None)) (sym frames)
        (frame_stays pages.frames page frame other (sound.formed.framed who other (ap (λ r. right_at r who other) (sym rights) ∙ is)));
    modified = λ other is.
        subst (λ (l : List (Option (List ℕ))). IsSome (get_or l other None)) (sym frames)
        (frame_stays pages.frames page frame other (sound.formed.modified other is));
    asked = λ who ask inside. subst (λ n. ask.page < n) (sym (ap length rights)) (sound.formed.asked who ask inside);
  };
  stands = standing (hub_of trail limit stabilisations places after) (record {
    shared = (stands_for (hub_of trail limit stabilisations places pages) sound.stands).shared;
    shows = shows_beside_frames (stands_for (hub_of trail limit stabilisations places pages) sound.stands).shared (hub_of trail limit stabilisations places pages) (hub_of trail limit stabilisations places after) (stands_for (hub_of trail limit stabilisations places pages) sound.stands).shows
        (ap (λ r. hub_of trail limit stabilisations places (record { rights = r; frames = after.frames })) rights);
    good = (stands_for (hub_of trail limit stabilisations places pages) sound.stands).good;
  });
}
