use Rattle.std.proofs.Common.{◌≡◌, ◌≢◌, ◌<◌, ℕ, zero, suc, List, [], ◌∷◌, ◌++◌, true, false, cond, ◌==◌, ◌&&◌, ◌||◌, ◌^◌, nat_eq, fold, length, set, get_or-set_same, get_or-set_other, length-set, refl, sym, ap, ◌∙◌, subst, ⊎_elim, true≢false, Contains, arith}
use Rattle.std.specs.Prelude.{Option, None, Some, IsSome}
use Rattle.std.specs.List.{list_any}
use Rattle.std.proofs.lemmas.List.Folds.{list_any-append}
use Rattle.std.proofs.Math.Bool.{or-false}
use Rattle.std.proofs.lemmas.Bool.{cases_eq, ne_eqb, eqb-true, and_left, cond-false}
use Rattle.casper_words.specs.Crew.{IsClient, has_member}
use Rattle.casper_words.proofs.CrewLemmas.{client_from_member}
use Rattle.casper_words.specs.declared.page.Right.{Right}
use Rattle.casper_words.specs.declared.page.Right.TheVariants as may
use Rattle.casper_words.specs.declared.page.Want.{Want}
use Rattle.casper_trail.specs.declared.entry.Entry.{Entry}
use Rattle.casper_trail.specs.declared.item.Item.{Item}
use Rattle.casper_trail.specs.Value.{value_of, value_after, writes_page}
use Rattle.casper_trail.specs.Modified.{is_modified}
use Rattle.casper_trail.specs.Parts.{as_items, live_entries, open_entries, stable_entries}
use Rattle.casper_trail.proofs.Values.{value_of_more}
use Rattle.casper_trail.proofs.Parts.{live_of_more_entries, open_of_more_entries, stable_of_more_entries}
use Rattle.casper_trail.proofs.LinkLists.{contains_there}
use Rattle.casper_dir.specs.declared.holders.Holders.{Holders}
use Rattle.casper_dir.specs.declared.holders.Holders.TheVariants.{Readers, Writer}
use Rattle.casper_dir.specs.Rights.{right_at, AreAllClients}
use Rattle.casper_model.specs.Stabilisation.{Stabilisation}
use Rattle.casper_turns.proofs.Lists.{any_none}
use Rattle.casper_hub.specs.HubView.{HubView, ClientView, PagesView, client_in, asks_of, frame_in, page_count}
use Rattle.casper_hub.specs.Sound.{IsWellFormed}

-- who has a right to a page is a client
pub holder_is_client : (rights : List Holders) (page who : ℕ) (right : Right) → AreAllClients rights → right_at rights who page ≡ Some right → IsClient who
holder_is_client [] page who right all e = cc
holder_is_client (Readers crew ∷ rest) zero who right all e =
    (elim (has_member who crew) as (λ b. has_member who crew ≡ b → cond {A = Option Right} b (Some may.Read) None ≡ Some right → IsClient who) [
      | true ↦ λ is _. client_from_member crew who all.0 is
      | false ↦ λ _ h. cc
    ]) refl e
holder_is_client (Writer writer ∷ rest) zero who right all e =
    (elim (nat_eq who writer) as (λ b. nat_eq who writer ≡ b → cond {A = Option Right} b (Some may.Write) None ≡ Some right → IsClient who) [
      | true ↦ λ is _. subst (λ (w : ℕ). IsClient w) (sym (eqb-true who writer is)) all.0
      | false ↦ λ _ h. cc
    ]) refl e
holder_is_client (holders ∷ rest) (suc page) who right all e = holder_is_client rest page who right all.1 e

-- beside a writer nobody has a right
pub nobody_beside : (rights : List Holders) (page writer other : ℕ) → right_at rights writer page ≡ Some may.Write → other ≢ writer → right_at rights other page ≡ None
nobody_beside [] page writer other e differ = refl
nobody_beside (Readers crew ∷ rest) zero writer other e differ =
    (elim (has_member writer crew) as (λ b. cond {A = Option Right} b (Some may.Read) None ≡ Some may.Write → right_at (Readers crew ∷ rest) other 0 ≡ None) [ true ↦ λ h. cc | false ↦ λ h. cc ]) e
nobody_beside (Writer who ∷ rest) zero writer other e differ =
    (elim (nat_eq writer who) as (λ b. nat_eq writer who ≡ b → cond {A = Option Right} b (Some may.Write) None ≡ Some may.Write → right_at (Writer who ∷ rest) other 0 ≡ None) [
      | true ↦ λ is _. ap (λ b. cond {A = Option Right} b (Some may.Write) None) (ne_eqb other who (λ same. differ (same ∙ sym (eqb-true writer who is))))
      | false ↦ λ _ h. cc
    ]) refl e
nobody_beside (holders ∷ rest) (suc page) writer other e differ = nobody_beside rest page writer other e differ

-- rights that are the same for each client are the same for each number
pub same_rights : (rights now : List Holders) (page other : ℕ) → AreAllClients rights → AreAllClients now → (IsClient other → right_at now other page ≡ right_at rights other page)
    → right_at now other page ≡ right_at rights other page
same_rights rights now page other all all_now same =
    by (right_at now other page) (right_at rights other page) refl refl
  where
    by : (after before : Option Right) → right_at now other page ≡ after → right_at rights other page ≡ before → right_at now other page ≡ right_at rights other page
    by None None is was = is ∙ sym was
    by (Some right) before is was = same (holder_is_client now page other right all_now is)
    by None (Some right) is was = same (holder_is_client rights page other right all was)

-- entries that do not write a page leave the value of its words
pub values_stay : (page word value : ℕ) (entries : List Entry) → ((entry : Entry) → Contains entries entry → writes_page page entry ≡ false) → fold (value_after page word) value entries ≡ value
values_stay page word value [] apart = refl
values_stay page word value (entry ∷ entries) apart =
    ap (λ now. fold (value_after page word) now entries)
    (cond-false (writes_page page entry && (entry.word == word)) entry.value value (and_left (writes_page page entry) (entry.word == word) (apart entry (zero, omega arith, refl))))
    ∙ values_stay page word value entries (λ one inside. apart one (contains_there entry entries one inside))

-- so the value over the live entries stays
pub live_elsewhere : (base : List (List ℕ)) (trail : List Item) (more : List Entry) (page word : ℕ) → ((entry : Entry) → Contains more entry → writes_page page entry ≡ false)
    → value_of base (live_entries (trail ++ as_items more)) page word ≡ value_of base (live_entries trail) page word
live_elsewhere base trail more page word apart =
    ap (λ entries. value_of base entries page word) (live_of_more_entries trail more) ∙ value_of_more base (live_entries trail) more page word
    ∙ values_stay page word (value_of base (live_entries trail) page word) more apart

-- and more entries leave the value over the stable ones
pub stored_stays : (base : List (List ℕ)) (trail : List Item) (more : List Entry) (page word : ℕ)
    → value_of base (stable_entries (trail ++ as_items more)) page word ≡ value_of base (stable_entries trail) page word
stored_stays base trail more page word = ap (λ entries. value_of base entries page word) (stable_of_more_entries trail more)

-- more entries modify the pages that they write
pub modified_more : (trail : List Item) (more : List Entry) (page : ℕ)
    → is_modified (trail ++ as_items more) page ≡ (is_modified trail page || list_any (writes_page page) more)
modified_more trail more page =
    ap (list_any (writes_page page)) (open_of_more_entries trail more) ∙ list_any-append (writes_page page) (open_entries trail) more

-- so a page that they do not write is modified as before
pub modified_elsewhere : (trail : List Item) (more : List Entry) (page : ℕ) → ((entry : Entry) → Contains more entry → writes_page page entry ≡ false)
    → is_modified (trail ++ as_items more) page ≡ is_modified trail page
modified_elsewhere trail more page apart =
    modified_more trail more page
    ∙ ap (λ b. is_modified trail page || b) (any_none (writes_page page) more (λ entry inside writes. true≢false (sym writes ∙ apart entry inside)))
    ∙ or-false (is_modified trail page)

-- the parts of a hub fit together whatever its stabilisations are
pub formed_beside : (hub : HubView) (stabilisations : List Stabilisation) → IsWellFormed hub → IsWellFormed (record hub { stabilisations = stabilisations })
formed_beside hub stabilisations formed = record {
  places = formed.places;
  holders = formed.holders;
  frames = formed.frames;
  short = formed.short;
  fits = formed.fits;
  framed = formed.framed;
  modified = formed.modified;
  asked = formed.asked;
}

-- a hub of which the trail, one client and the pages change
abbrev pub changed : HubView → List Item → ℕ → Option ClientView → PagesView → HubView
changed hub trail who place pages = record hub { trail = trail; clients = set hub.clients who place; pages = pages }

module _ (hub : HubView) (trail : List Item) (who : ℕ) (place : Option ClientView) (pages : PagesView) where
  module _ (long : length hub.clients ≡ 33) (client : IsClient who) where
    pub changed_here : client_in (changed hub trail who place pages) who ≡ place
    changed_here = let most = client.1 in get_or-set_same hub.clients who place None (omega (arith, most, long))

  pub changed_elsewhere : (other : ℕ) → other ≢ who → client_in (changed hub trail who place pages) other ≡ client_in hub other
  changed_elsewhere other differ = get_or-set_other hub.clients who other place None differ

  -- its parts fit together where those of the client and the pages do
  pub formed_changed : IsWellFormed hub → IsClient who → ((ask : Want) → Contains (asks_of place) ask → ask.page < page_count hub)
      → length pages.rights ≡ page_count hub → length pages.frames ≡ length hub.pages.frames → AreAllClients pages.rights
      → ((client page : ℕ) → IsClient client → client ≢ who → right_at pages.rights client page ≡ right_at hub.pages.rights client page)
      → ((page : ℕ) → right_at pages.rights who page ≡ Some may.Write → IsSome (frame_in pages page))
      → ((page : ℕ) → IsSome (frame_in hub.pages page) → IsSome (frame_in pages page))
      → ((page : ℕ) → is_modified trail page ≡ true → IsSome (frame_in pages page))
      → IsWellFormed (changed hub trail who place pages)
  formed_changed formed client asked count frames holders others framed_here framed modified = record {
    places = length-set hub.clients who place ∙ formed.places;
    holders = holders;
    frames = frames ∙ formed.frames ∙ sym count;
    short = subst (λ n. n < 2 ^ 32) (sym count) formed.short;
    fits = formed.fits;
    framed = λ other page is. ⊎_elim
        (λ same. framed_here page (sym (ap (λ (w : ℕ). right_at pages.rights w page) same) ∙ is))
        (λ differ. framed page (formed.framed other page (sym (any other page differ) ∙ is)))
        (cases_eq other who);
    modified = modified;
    asked = λ other ask inside. subst (λ n. ask.page < n) (sym count) (⊎_elim
        (λ same.
        asked ask (subst (λ (o : Option ClientView). Contains (asks_of o) ask)
        (ap (λ (w : ℕ). client_in (changed hub trail who place pages) w) same ∙ changed_here formed.places client) inside))
        (λ differ. formed.asked other ask (subst (λ (o : Option ClientView). Contains (asks_of o) ask) (changed_elsewhere other differ) inside))
        (cases_eq other who));
  }
    where
      any : (other page : ℕ) → other ≢ who → right_at pages.rights other page ≡ right_at hub.pages.rights other page
      any other page differ = same_rights hub.pages.rights pages.rights page other formed.holders holders (λ is. others other page is differ)
      -- and nothing is being made stable where nothing was
