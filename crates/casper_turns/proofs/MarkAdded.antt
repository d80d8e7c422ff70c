use Rattle.std.proofs.Common.{◌≡◌, ℕ, List, [], ◌∷◌, ◌++◌, true, false, ◌==◌, ◌&&◌, ◌||◌, refl, sym, ap, ◌∙◌, subst, ⊎_elim, true≢false, append-nil}
use Rattle.std.proofs.lemmas.Bool.{and_parts, eqb-true, eq-eqb, or_cases}
use Rattle.casper_words.specs.Crew.{has_member}
use Rattle.casper_words.specs.declared.page.Right.TheVariants as may
use Rattle.casper_trail.specs.declared.item.Item.{Item}
use Rattle.casper_trail.specs.declared.item.Item.TheVariants as item
use Rattle.casper_trail.specs.declared.mark.Mark.{Mark}
use Rattle.casper_trail.specs.declared.mark.Mark.TheVariants.{Commit}
use Rattle.casper_trail.specs.Calls.{calls_of}
use Rattle.casper_trail.specs.Fate.{members_of}
use Rattle.casper_trail.specs.GrowthLaws.{WritersAreWith}
use Rattle.casper_trail.specs.Legal.{IsLegal}
use Rattle.casper_trail.specs.Marks.{IsExactMark}
use Rattle.casper_trail.specs.Parts.{live_entries}
use Rattle.casper_trail.specs.Value.{value_of}
use Rattle.casper_trail.proofs.CallLists.{calls_after_mark, clients_of_more}
use Rattle.casper_trail.proofs.InTurn.{exact_after_mark, legal_after_mark}
use Rattle.casper_trail.proofs.Pages.{value_after_mark}
use Rattle.casper_trail.proofs.Parts.{live_after_commit}
use Rattle.casper_model.specs.ExactHistory.{IsExact}
use Rattle.casper_model.specs.Held.{covers, allows}
use Rattle.casper_model.specs.LegalHistory.{IsGoodNow}
use Rattle.casper_model.specs.Own.{Own}
use Rattle.casper_model.specs.Shared.{Shared}
use Rattle.casper_model.proofs.MarkHistory.{good_behind_rollback, good_behind_commit}
use Rattle.casper_model.proofs.StateHistory.{WasUp, Marks}
use Rattle.casper_turns.proofs.Lists.{nothing_in}
use Rattle.casper_turns.proofs.StillLeft.{outside_apart}

-- a client that holds this page alone, and has nothing pending
abbrev reader : ℕ → ℕ → Own
reader who page = record { who = who; capacity = 1; cap = 0; held = record { page = page; right = may.Read } ∷ []; pending = [] }

holds_it : (page at : ℕ) → allows (record { page = page; right = may.Read } ∷ []) at may.Read ≡ true → page ≡ at
holds_it page at found =
    ⊎_elim (λ here. eqb-true page at (and_parts (page == at) (covers may.Read may.Read) here).0) (λ never. absurd (true≢false (sym never)))
    (or_cases ((page == at) && covers may.Read may.Read) false found)

module _ (items : List Item) (who page : ℕ) (before : WritersAreWith items page who) where
  good_reader : IsGoodNow [] items (reader who page)
  good_reader = record {
    held = λ call inside. absurd (nothing_in call inside);
    right = tt;
    writers = λ at found. subst (λ number. WritersAreWith items number who) (holds_it page at found) before;
  }

  reads_it : allows (reader who page).held page may.Read ≡ true
  reads_it = ap (λ same. (same && true) || false) (eq-eqb page page refl)

  writers_behind_rollback : (mark : Mark) → IsExactMark items mark → has_member who (members_of mark) ≡ false → WritersAreWith (items ++ item.Mark mark ∷ []) page who
  writers_behind_rollback mark exact outside = (good_behind_rollback [] items mark exact (reader who page) outside good_reader).writers page reads_it

  writers_behind_commit : (lead : ℕ) (members : List ℕ) → IsExactMark items (Commit lead members)
      → WritersAreWith (items ++ item.Mark (Commit lead members) ∷ []) page who
  writers_behind_commit lead members exact = (good_behind_commit [] items lead members exact (reader who page) good_reader).writers page reads_it

-- what is no turn of a client adds at most one mark: no call of anyone, and the marks stay exact and the trail legal. For a client
-- that is not fallen after it the open writes of a page are of its association still, and the words of the page stay
pub record MarkAdded (shared after : Shared) : Type 0 where
  pub more : List Item
  pub trail : after.trail ≡ shared.trail ++ more
  pub calls : (who : ℕ) → calls_of after.trail who ≡ calls_of shared.trail who
  pub exact : IsExact shared.trail → IsExact after.trail
  pub legal : (base : List (List ℕ)) → IsLegal base shared.trail → IsLegal base after.trail
  pub writers : (who page : ℕ) → WasUp after who → WritersAreWith shared.trail page who → WritersAreWith after.trail page who
  pub words : (base : List (List ℕ)) (who page word : ℕ) → WasUp after who → WritersAreWith shared.trail page who
      → value_of base (live_entries after.trail) page word ≡ value_of base (live_entries shared.trail) page word

one_mark : (shared after : Shared) (mark : Mark) → IsExactMark shared.trail mark → after.trail ≡ shared.trail ++ item.Mark mark ∷ []
    → ((who page : ℕ) → WasUp after who → WritersAreWith shared.trail page who → WritersAreWith (shared.trail ++ item.Mark mark ∷ []) page who)
    → ((base : List (List ℕ)) (who page word : ℕ) → WasUp after who → WritersAreWith shared.trail page who
    → value_of base (live_entries (shared.trail ++ item.Mark mark ∷ [])) page word ≡ value_of base (live_entries shared.trail) page word)
    → MarkAdded shared after
one_mark shared after mark exact grown writers words = record {
  more = item.Mark mark ∷ [];
  trail = grown;
  calls = λ who. ap (λ trail. calls_of trail who) grown ∙ calls_after_mark shared.trail mark who;
  exact = λ is.
      subst IsExact (sym grown)
      (record { marks = exact_after_mark shared.trail mark is.marks exact; clients = clients_of_more shared.trail (item.Mark mark ∷ []) is.clients tt });
  legal = λ base is. subst (IsLegal base) (sym grown) (legal_after_mark base shared.trail mark is);
  writers = λ who page up before. subst (λ trail. WritersAreWith trail page who) (sym grown) (writers who page up before);
  words = λ base who page word up before. ap (λ trail. value_of base (live_entries trail) page word) grown ∙ words base who page word up before;
}

pub added_by_marks : (shared after : Shared) → Marks shared after → MarkAdded shared after
added_by_marks shared after (Marks.stays same up) = record {
  more = [];
  trail = same ∙ sym (append-nil shared.trail);
  calls = λ who. ap (λ trail. calls_of trail who) same;
  exact = subst IsExact (sym same);
  legal = λ base. subst (IsLegal base) (sym same);
  writers = λ who page there. subst (λ trail. WritersAreWith trail page who) (sym same);
  words = λ base who page word there before. ap (λ trail. value_of base (live_entries trail) page word) same;
}
added_by_marks shared after (Marks.commits lead members exact grown up) =
    one_mark shared after (Commit lead members) exact grown (λ who page there before. writers_behind_commit shared.trail who page before lead members exact)
    (λ base who page word there before. ap (λ entries. value_of base entries page word) (live_after_commit shared.trail lead members))
added_by_marks shared after (Marks.rolls_back mark exact grown up) =
    one_mark shared after mark exact grown
    (λ who page there before. writers_behind_rollback shared.trail who page before mark exact (up who there.0 there.1 there.2).1)
    (λ base who page word there before.
    value_after_mark base shared.trail mark page word
    (λ write inside writes. outside_apart shared.trail mark exact who write.who (up who there.0 there.1 there.2).1 (before write inside writes)))
