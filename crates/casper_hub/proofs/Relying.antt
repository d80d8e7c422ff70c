use Rattle.std.proofs.Common.{◌≡◌, ℕ, List, fold, refl, sym, ap, ◌∙◌, true}
use Rattle.std.specs.Prelude.{Option, None, Some, IsSome, option_map, IfSome}
use Rattle.casper_words.specs.declared.page.Right.{Right}
use Rattle.casper_words.specs.declared.page.Right.TheVariants as may
use Rattle.casper_trail.specs.Value.{value_of, value_after}
use Rattle.casper_trail.specs.Parts.{live_entries}
use Rattle.casper_trail.specs.Calls.{entries_by}
use Rattle.casper_trail.specs.Image.{image_of}
use Rattle.casper_trail.proofs.Values.{value_of_more}
use Rattle.casper_cache.specs.declared.held.Held.{Held}
use Rattle.casper_cache.specs.Holding.{entry_of, right_of}
use Rattle.casper_cache.specs.Own as cache
use Rattle.casper_model.specs.Client.{Fallen}
use Rattle.casper_model.specs.Shared.{Shared, client_at, fallen_at}
use Rattle.casper_model.specs.View.{seen_by}
use Rattle.casper_turns.specs.KeepsClient.{KeepsClient}
use Rattle.casper_turns.specs.Good.{IsGoodWith}
use Rattle.casper_turns.specs.CommitsNothing.{CommitsNothing}
use Rattle.casper_turns.proofs.Compose.{apart_itself, apart_again, still_itself, still_again, good_with_while_apart, known_by_agreement}
use Rattle.casper_turns.proofs.StillImages.{image_while_still}
use Rattle.casper_hub.specs.GoesOn.{ComesFrom, GoesOn}
use Rattle.casper_hub.specs.HubView.{HubView, fallen_in, items_behind, items_seen}
use Rattle.casper_hub.specs.Owned.{own_of}
use Rattle.casper_hub.specs.Relying.{KeptItself, KeptAgain, CommitsNothingItself, CommitsNothingAgain, ImageStands, LiveWhileKept, PagesWhileKept, OwnsWhileKept, RightWhileKept}
use Rattle.casper_hub.specs.Shows.{permits, Shows}
use Rattle.casper_hub.specs.Sound.{IsSound}
use Rattle.casper_hub.specs.Words.{live_value, seen_value, AreWords, HeldIsRight}
use Rattle.casper_hub.proofs.StandsFor.{stands_for, goes_from, going, good_with, good_with_each}
use Rattle.casper_hub.proofs.Showing.{allows_right, liveness_shown, seen_shown}
use Rattle.casper_hub.proofs.Transport.{good_too}

-- what each shared part has with itself, a hub that stays has
pub goes_nowhere : (between : Shared → Shared → Type 0) → ((shared : Shared) → between shared shared) → (hub : HubView) → GoesOn between hub hub
goes_nowhere between itself hub = going between hub hub (λ shared shows good. record { next = shared; shows = shows; good = good; comes = itself shared })

-- and so has a hub after another that stands for the same
pub goes_same : (between : Shared → Shared → Type 0) → ((shared : Shared) → between shared shared) → (hub after : HubView)
    → ((shared : Shared) → Shows shared hub → Shows shared after) → GoesOn between hub after
goes_same between itself hub after same =
    going between hub after (λ shared shows good. record { next = shared; shows = same shared shows; good = good; comes = itself shared })

goes_again : (between : Shared → Shared → Type 0) → ((one two three : Shared) → between one two → between two three → between one three)
    → (first second third : HubView) → GoesOn between first second → GoesOn between second third → GoesOn between first third
goes_again between again first second third one two =
    going between first third
    (λ shared shows good.
    let middle = goes_from between first second one shared shows good in
    let last = goes_from between second third two middle.next middle.shows middle.good in
    record { next = last.next; shows = last.shows; good = last.good; comes = again shared middle.next last.next middle.comes last.comes })

pub kept_itself : KeptItself
kept_itself who hub = goes_nowhere (KeepsClient who) (apart_itself who) hub

pub kept_again : KeptAgain
kept_again who = goes_again (KeepsClient who) (apart_again who)

pub nothing_itself : CommitsNothingItself
nothing_itself hub = goes_nowhere CommitsNothing still_itself hub

pub nothing_again : CommitsNothingAgain
nothing_again = goes_again CommitsNothing still_again

-- what comes from what a sound hub stands for
pub from_sound : (between : Shared → Shared → Type 0) (hub after : HubView) → (sound : IsSound hub) → GoesOn between hub after → ComesFrom between (stands_for hub sound.stands).shared after
from_sound between hub after sound goes = goes_from between hub after goes (stands_for hub sound.stands).shared (stands_for hub sound.stands).shows (stands_for hub sound.stands).good

pub image_stands : ImageStands
image_stands hub after sound still base =
    let one = from_sound CommitsNothing hub after sound still in
    ap (image_of base) (sym one.shows.trail) ∙ image_while_still (stands_for hub sound.stands).shared one.next one.comes base ∙ ap (image_of base) (stands_for hub sound.stands).shows.trail

pub live_while_kept : LiveWhileKept
live_while_kept who hub after sound kept =
    let one = from_sound (KeepsClient who) hub after sound kept in
    sym (liveness_shown one.next after one.shows who) ∙ one.comes.live ∙ liveness_shown (stands_for hub sound.stands).shared hub (stands_for hub sound.stands).shows who

pub pages_while_kept : PagesWhileKept
pages_while_kept who hub after sound kept =
    let one = from_sound (KeepsClient who) hub after sound kept in
    sym one.shows.pages ∙ one.comes.pages ∙ (stands_for hub sound.stands).shows.pages

pub owns_while_kept : OwnsWhileKept
owns_while_kept hub after own sound owns kept = record {
  sound = owns.sound;
  few = owns.few;
  live = live_while_kept own.client hub after sound kept ∙ owns.live;
  good = good_with_each after (own_of own) (λ shared shows good.
      let one = from_sound (KeepsClient own.client) hub after sound kept in
      good_too one.next shared after (own_of own) one.shows shows good
      (good_with_while_apart (stands_for hub sound.stands).shared one.next (own_of own) (good_with hub (own_of own) owns.good (stands_for hub sound.stands).shared (stands_for hub sound.stands).shows (stands_for hub sound.stands).good) one.comes));
}

-- a client sees its pending calls over the live entries of the items that it sees
seen_recorded : (base : List (List ℕ)) (hub : HubView) (own : cache.Own) (page word : ℕ)
    → seen_value base hub own page word ≡ fold (value_after page word) (value_of base (live_entries (items_seen hub own.client)) page word) (entries_by own.client own.pending)
seen_recorded base hub own page word = value_of_more base (live_entries (items_seen hub own.client)) (entries_by own.client own.pending) page word

-- where it has not fallen, over all live entries
pub seen_plain : (base : List (List ℕ)) (hub : HubView) (own : cache.Own) (page word : ℕ) → fallen_in hub own.client ≡ None
    → seen_value base hub own page word ≡ fold (value_after page word) (live_value base hub page word) (entries_by own.client own.pending)
seen_plain base hub own page word up =
    seen_recorded base hub own page word
    ∙ ap (λ fell. fold (value_after page word) (value_of base (live_entries (items_behind hub.trail fell)) page word) (entries_by own.client own.pending)) up

-- words that have some values have others that are the same
pub same_words : (one other : ℕ → ℕ → ℕ) (page : ℕ) (words : List ℕ) → ((word : ℕ) → one page word ≡ other page word) → AreWords one page words → AreWords other page words
same_words one other page words same are = record {
  long = are.long;
  each = λ word below. are.each word below ∙ same word;
}

-- so do the words of held pages
pub same_held : (one other : ℕ → ℕ → ℕ) (held : List Held) → ((page word : ℕ) → IsSome (right_of page held) → one page word ≡ other page word)
    → HeldIsRight one held → HeldIsRight other held
same_held one other held same right page = of_entry (entry_of page held) (λ word is. same page word is) (right page)
  where
    of_entry : (entry : Option Held) → ((word : ℕ) → IsSome (option_map (λ (h : Held). h.right) entry) → one page word ≡ other page word)
        → IfSome (option_map (λ (h : Held). h.words) entry) (λ words. AreWords one page words)
        → IfSome (option_map (λ (h : Held). h.words) entry) (λ words. AreWords other page words)
    of_entry None alike are = tt
    of_entry (Some entry) alike are = same_words one other page entry.words (λ word. alike word refl) are

-- a right permits at least to read
pub some_reads : (right : Option Right) → IsSome right → permits right may.Read ≡ true
some_reads None is = is
some_reads (Some may.Read) is = refl
some_reads (Some may.Write) is = refl

pub right_while_kept : RightWhileKept
right_while_kept base hub after own sound owns kept right =
    same_held (seen_value base hub own) (seen_value base after own) own.held
    (λ page word held.
    seen_recorded base hub own page word
    ∙ ap (λ value. fold (value_after page word) value (entries_by own.client own.pending)) (sym (stays page word held))
    ∙ sym (seen_recorded base after own page word))
    right
  where
    shared : Shared
    shared = (stands_for hub sound.stands).shared

    one : ComesFrom (KeepsClient own.client) shared after
    one = from_sound (KeepsClient own.client) hub after sound kept

    mine : IsGoodWith shared (own_of own)
    mine = good_with hub (own_of own) owns.good shared (stands_for hub sound.stands).shows (stands_for hub sound.stands).good

    by_fall : (page word : ℕ) → IsSome (right_of page own.held) → (fallen : Option Fallen) → fallen_at shared own.client ≡ fallen
        → value_of base (seen_by one.next (fallen_at one.next own.client)) page word ≡ value_of base (seen_by shared (fallen_at shared own.client)) page word
    by_fall page word held None up =
        one.comes.words base page word
        (known_by_agreement (client_at shared own.client) (own_of own) mine.agrees up page may.Read
        (allows_right own.held owns.sound.distinct page may.Read ∙ some_reads (right_of page own.held) held))
    by_fall page word held (Some fallen) fell =
        ap (λ o. value_of base (seen_by one.next o) page word) (one.comes.lost fallen fell) ∙ sym (ap (λ o. value_of base (seen_by shared o) page word) fell)

    stays : (page word : ℕ) → IsSome (right_of page own.held)
        → value_of base (live_entries (items_seen after own.client)) page word ≡ value_of base (live_entries (items_seen hub own.client)) page word
    stays page word held =
        ap (λ entries. value_of base entries page word) (sym (seen_shown one.next after one.shows own.client))
        ∙ by_fall page word held (fallen_at shared own.client) refl
        ∙ ap (λ entries. value_of base entries page word) (seen_shown shared hub (stands_for hub sound.stands).shows own.client)
