use Rattle.std.proofs.Common.{◌≡◌, ℕ, zero, suc, ◌+◌, ◌*◌, ◌<◌, ◌≤◌, Bool, true, false, cond, List, [], ◌∷◌, ◌++◌, length, refl, sym, ◌∙◌, ap, subst, arith, inl, inr, append_assoc, length-append}
use Rattle.std.specs.Prelude.{slice_index, nat_lt}
use Rattle.std.proofs.lemmas.Bool.Decides.{nat_tests}
use Rattle.std.proofs.lemmas.List.{append-nil}
use Rattle.casper_words.specs.declared.call.Call.{Call}
use Rattle.casper_space.specs.WordCalls.{HeldWords, HasMade, read_of}
use Rattle.casper_space.proofs.Making.{made_both, made_read}
use Rattle.casper_heap.specs.declared.block.HeapBlock.{HeapBlock}
use Rattle.casper_heap.specs.Walk.{has_block, block_at, block_end, end_after, walk_end, blocks_at, blocks_of, used_end, read_at, header_reads, walk_calls}
use Rattle.casper_heap.proofs.Tests.{Met, met}
use Rattle.casper_heap.proofs.WalkLemmas.{blocks_stop, blocks_go}

-- a walk of a page has come from the first place to this one
pub record Walking {S : Type 0} (seen : S → HeldWords) (step : S → Call → S → Type 0) (page end : ℕ) (first now : S)
    (blocks : List HeapBlock) (place : ℕ) : Type 0 where
  pub end_is : end ≡ used_end ((seen first).words page)
  pub low : 1 ≤ end
  pub most : end ≤ 512
  pub right : (seen now).right ≡ (seen first).right
  pub words : (seen now).words ≡ (seen first).words
  pub blocks_are : blocks ++ blocks_at ((seen first).words page) end place ≡ blocks_at ((seen first).words page) end 1
  pub end_after_is : end_after place (blocks_at ((seen first).words page) end place) ≡ end_after 1 (blocks_at ((seen first).words page) end 1)
  pub made : (after : S)
      → HasMade seen step now (header_reads page ((seen first).words page) end place (blocks_at ((seen first).words page) end place)) after
      → HasMade seen step first (header_reads page ((seen first).words page) end 1 (blocks_at ((seen first).words page) end 1)) after
  pub room : end ≤ place + 3 * (seen now).room
  pub spent : 3 * (seen first).room ≤ 3 * (seen now).room + place
  pub count : 3 * length blocks < place
  pub within : place ≤ 512

module _ {S : Type 0} {seen : S → HeldWords} {step : S → Call → S → Type 0} where
  pub walking_first : (page end : ℕ) (first : S) → end ≡ used_end ((seen first).words page) → 1 ≤ end → end ≤ 512 → 171 ≤ (seen first).room
      → Walking seen step page end first first [] 1
  walking_first page end first is low most room = record {
    end_is = is;
    low = low;
    most = most;
    right = refl;
    words = refl;
    blocks_are = refl;
    end_after_is = refl;
    made = λ after made. made;
    room = omega arith;
    spent = omega arith;
    count = omega arith;
    within = omega arith;
  }

  -- what a walk read, by the words as it began
  pub read_there : {page end : ℕ} {first now next : S} {blocks : List HeapBlock} {place : ℕ} → Walking seen step page end first now blocks place
      → HasMade seen step now (cond (nat_lt place end) (read_at page ((seen now).words page) place ∷ []) []) next
      → HasMade seen step now (cond (nat_lt place end) (read_at page ((seen first).words page) place ∷ []) []) next
  read_there {page} {end} {first} {now} {next} {blocks} {place} so read =
      subst (λ (pages : ℕ → List ℕ). HasMade seen step now (cond (nat_lt place end) (read_at page (pages page) place ∷ []) []) next) so.words read

  read_below : {page end : ℕ} {first now next : S} {blocks : List HeapBlock} {place : ℕ} → Walking seen step page end first now blocks place → place < end
      → HasMade seen step now (cond (nat_lt place end) (read_at page ((seen now).words page) place ∷ []) []) next
      → HasMade seen step now (read_at page ((seen first).words page) place ∷ []) next
  read_below {page} {end} {first} {now} {next} {blocks} {place} so below read =
      let test : nat_lt place end ≡ true = grind (arith, nat_tests) in
      subst (λ (b : Bool). HasMade seen step now (cond b (read_at page ((seen first).words page) place ∷ []) []) next) test (read_there so read)

  -- one more block is met
  pub walking_more : {page end : ℕ} {first now next : S} {blocks : List HeapBlock} {place : ℕ} → Walking seen step page end first now blocks place
      → has_block ((seen first).words page) end place ≡ true
      → HasMade seen step now (cond (nat_lt place end) (read_at page ((seen now).words page) place ∷ []) []) next
      → Walking seen step page end first next (blocks ++ block_at ((seen first).words page) place ∷ [])
      (block_end (block_at ((seen first).words page) place))
  walking_more {page} {end} {first} {now} {next} {blocks} {place} so is read =
      let words = (seen first).words page in
      let facts : Met words end place = met words end place is in
      let here : HasMade seen step now (read_at page words place ∷ []) next = read_below so facts.before read in
      let length_is : length (blocks ++ block_at words place ∷ []) ≡ length blocks + 1 = length-append blocks (block_at words place ∷ []) in
      let one : (seen now).room ≡ (seen next).room + 1 = here.room in
      record {
        end_is = so.end_is;
        low = so.low;
        most = so.most;
        right = here.right ∙ so.right;
        words = here.words ∙ so.words;
        blocks_are =
            append_assoc blocks (block_at words place ∷ []) (blocks_at words end (block_end (block_at words place)))
            ∙ ap (λ (behind : List HeapBlock). blocks ++ behind) (sym (blocks_go words end place is)) ∙ so.blocks_are;
        end_after_is = sym (ap (end_after place) (blocks_go words end place is)) ∙ so.end_after_is;
        made = λ after later. so.made after
            (subst (λ (met : List HeapBlock). HasMade seen step now (header_reads page words end place met) after)
            (sym (blocks_go words end place is)) (made_both here later));
        room = omega (arith, so.room, one, facts.some);
        spent = omega (arith, so.spent, one, facts.some);
        count = omega (arith, so.count, length_is, facts.some);
        within = omega (arith, facts.ends, so.most);
      }

  -- the walk has come to its end
  pub walking_done : {page end : ℕ} {first now last : S} {blocks : List HeapBlock} {place : ℕ} → Walking seen step page end first now blocks place
      → has_block ((seen first).words page) end place ≡ false
      → HasMade seen step now (cond (nat_lt place end) (read_at page ((seen now).words page) place ∷ []) []) last
      → HasMade seen step first (header_reads page ((seen first).words page) end 1 (blocks_at ((seen first).words page) end 1)) last
  walking_done {page} {end} {first} {now} {last} {blocks} {place} so none read =
      let words = (seen first).words page in
      so.made last
      (subst (λ (met : List HeapBlock). HasMade seen step now (header_reads page words end place met) last)
      (sym (blocks_stop words end place none)) (read_there so read))

  -- the walk of a page is the read of its first word and what follows
  pub walk_made : {page end : ℕ} {before first last : S} → end ≡ used_end ((seen first).words page)
      → HasMade seen step before (read_at page ((seen before).words page) 0 ∷ []) first
      → HasMade seen step first (header_reads page ((seen first).words page) end 1 (blocks_at ((seen first).words page) end 1)) last
      → HasMade seen step before (walk_calls (seen before).words page) last
  unfolding walk_calls blocks_of
  walk_made {page} {end} {before} {first} {last} is one rest =
      made_both one
      (subst (λ (pages : ℕ → List ℕ). HasMade seen step first
      (header_reads page (pages page) (used_end (pages page)) 1 (blocks_of (pages page))) last) one.words
      (subst (λ (at : ℕ). HasMade seen step first
      (header_reads page ((seen first).words page) at 1 (blocks_at ((seen first).words page) at 1)) last) is rest))

  -- the same of a block that was met by the words as they were then
  pub walking_next : {page end : ℕ} {first now next : S} {blocks : List HeapBlock} {place : ℕ} (block : HeapBlock) (behind : List HeapBlock) (later : ℕ)
      → Walking seen step page end first now blocks place
      → (has_block ((seen now).words page) end place ≡ true) × (block_at ((seen now).words page) place ≡ block)
      → HasMade seen step now (cond (nat_lt place end) (read_at page ((seen now).words page) place ∷ []) []) next
      → behind ≡ blocks ++ block ∷ [] → later ≡ block_end block → Walking seen step page end first next behind later
  walking_next {page} {end} {first} {now} {next} {blocks} {place} block behind later so found read items is =
      let words : (seen now).words ≡ (seen first).words = so.words in
      let has : has_block ((seen first).words page) end place ≡ true =
      subst (λ (pages : ℕ → List ℕ). has_block (pages page) end place ≡ true) words found.0 in
      let here : block_at ((seen first).words page) place ≡ block =
      subst (λ (pages : ℕ → List ℕ). block_at (pages page) place ≡ block) words found.1 in
      let more = walking_more so has read in
      subst (λ (met : List HeapBlock). Walking seen step page end first next met later) (sym items)
      (subst (λ (at : ℕ). Walking seen step page end first next (blocks ++ block ∷ []) at) (sym is)
      (subst (λ (met : HeapBlock). Walking seen step page end first next (blocks ++ met ∷ []) (block_end met)) here more))

  pub walking_last : {page end : ℕ} {first now last : S} {blocks : List HeapBlock} {place : ℕ} → Walking seen step page end first now blocks place
      → has_block ((seen now).words page) end place ≡ false
      → HasMade seen step now (cond (nat_lt place end) (read_at page ((seen now).words page) place ∷ []) []) last
      → HasMade seen step first (header_reads page ((seen first).words page) end 1 (blocks_at ((seen first).words page) end 1)) last
  walking_last {page} {end} {first} {now} {last} {blocks} {place} so none read =
      walking_done so (subst (λ (pages : ℕ → List ℕ). has_block (pages page) end place ≡ false) so.words none) read

  -- a read has read the word that stands there
  pub read_made : {before after : S} {page word value : ℕ} → value ≡ slice_index ((seen before).words page) word
      → (seen after).right ≡ (seen before).right → (seen after).words ≡ (seen before).words
      → (seen after).calls ≡ (seen before).calls ++ read_of page word value ∷ [] → (seen before).room ≡ (seen after).room + 1
      → step before (read_of page word value) after → HasMade seen step before (read_at page ((seen before).words page) word ∷ []) after
  read_made {before} {after} {page} {word} {value} is right words calls room did =
      subst (λ (found : ℕ). HasMade seen step before (read_of page word found ∷ []) after) is (made_read right words calls room did)

  -- the blocks that were met are those of the page
  pub walk_blocks : {page end : ℕ} {before first now : S} {blocks : List HeapBlock} {place : ℕ} → Walking seen step page end first now blocks place
      → has_block ((seen now).words page) end place ≡ false → (seen first).words ≡ (seen before).words → blocks ≡ blocks_of ((seen before).words page)
  unfolding blocks_of
  walk_blocks {page} {end} {before} {first} {now} {blocks} {place} so none same =
      let words = (seen first).words page in
      let stops : has_block words end place ≡ false = subst (λ (pages : ℕ → List ℕ). has_block (pages page) end place ≡ false) so.words none in
      sym (append-nil blocks) ∙ ap (λ (behind : List HeapBlock). blocks ++ behind) (sym (blocks_stop words end place stops)) ∙ so.blocks_are
      ∙ ap (λ (at : ℕ). blocks_at words at 1) so.end_is ∙ ap (λ (pages : ℕ → List ℕ). blocks_at (pages page) (used_end (pages page)) 1) same

  -- and the place where the walk stopped is that of the page
  pub walk_stops : {page end : ℕ} {before first now : S} {blocks : List HeapBlock} {place : ℕ} → Walking seen step page end first now blocks place
      → has_block ((seen now).words page) end place ≡ false → (seen first).words ≡ (seen before).words → place ≡ walk_end ((seen before).words page)
  unfolding blocks_of
  walk_stops {page} {end} {before} {first} {now} {blocks} {place} so none same =
      let words = (seen first).words page in
      let stops : has_block words end place ≡ false = subst (λ (pages : ℕ → List ℕ). has_block (pages page) end place ≡ false) so.words none in
      sym (ap (end_after place) (blocks_stop words end place stops)) ∙ so.end_after_is
      ∙ ap (λ (at : ℕ). end_after 1 (blocks_at words at 1)) so.end_is
      ∙ ap (λ (pages : ℕ → List ℕ). end_after 1 (blocks_at (pages page) (used_end (pages page)) 1)) same
