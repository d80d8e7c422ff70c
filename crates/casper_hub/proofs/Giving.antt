use Rattle.std.proofs.Common.{◌≡◌, ℕ, zero, suc, ◌<◌, ◌∙◌, Bool, true, false, cond, ◌&&◌, nat_eq, eq-eqb, List, [], ◌∷◌, Option, Some, None, IsSome, is_some, length, set, get_or, filter_map, option_map, option_and_then, IfSome, MatchOption, refl, sym, ap, subst, ⊎_elim, get_or-set_same, get_or-set_other, arith}
use Rattle.std.proofs.lemmas.List.{length-set}
use Rattle.std.proofs.lemmas.Bool.{ne_eqb, cases_eq}
use Rattle.casper_words.specs.Crew.{IsClient}
use Rattle.casper_words.specs.declared.page.Right.{Right}
use Rattle.casper_words.specs.declared.page.Right.TheVariants as may
use Rattle.casper_dir.specs.declared.holders.Holders.{Holders}
use Rattle.casper_dir.specs.declared.holders.Holders.TheVariants.{Readers, Writer}
use Rattle.casper_dir.specs.Rights.{right_at, writer_at, AreAllClients, ChangesOneRight}
use Rattle.casper_dir.proofs.EqualRights.{writer_holds_to_write}
use Rattle.casper_cache.specs.declared.held.Held.{Held}
use Rattle.casper_cache.specs.Holding.{entry_of, right_of, words_of, others, lowered, ArePagesDistinct}
use Rattle.casper_cache.proofs.Entries.{entry_of-page}
use Rattle.casper_model.specs.Held.{is_to_write}
use Rattle.casper_hub.specs.HubView.{PagesView, frame_in}
use Rattle.casper_hub.specs.Words.{HasNoOpenWriter, ServerIsRight, HeldIsRight, AreWords}
use Rattle.casper_hub.specs.Given.{left_of, kept_as, Falls, GivesUp, Covers, handed_in, writes}
use Rattle.casper_hub.proofs.Left.{AreAsHeld, are_as_held, kept-itself, kept-twice, kept-lowered, kept-others, words-kept, entry_of-kept, distinct-kept}

-- a right that stays falls
falls_itself : (right : Option Right) → Falls right right
falls_itself None = refl
falls_itself (Some may.Read) = refl
falls_itself (Some may.Write) = tt

-- two falls are a fall
falls_again : (first second third : Option Right) → Falls first second → Falls second third → Falls first third
falls_again None second third f g = subst (λ (o : Option Right). Falls o third) f g
falls_again (Some may.Write) second third f g = tt
falls_again (Some may.Read) None third f g = subst (λ (o : Option Right). Falls (Some may.Read) o) (sym g) tt
falls_again (Some may.Read) (Some may.Read) third f g = g
falls_again (Some may.Read) (Some may.Write) third f g = absurd (read_is_not_write (sym f))
  where
    read_is_not_write : may.Read ≡ may.Write → ⊥
    read_is_not_write e = cc

-- a right that has fallen was there before
pub fallen_from : (first second : Option Right) (right : Right) → Falls first second → second ≡ Some right → (before : Right) × (first ≡ Some before)
fallen_from None second right f is = cc
fallen_from (Some before) second right f is = (before, refl)

-- one that may write still could write before
pub writes_before : (first second : Option Right) → Falls first second → second ≡ Some may.Write → first ≡ Some may.Write
writes_before None second f is = cc
writes_before (Some may.Write) second f is = refl
writes_before (Some may.Read) second f is = absurd (write_is_not_read (subst (λ (o : Option Right). Falls (Some may.Read) o) is f))
  where
    write_is_not_read : may.Write ≡ may.Read → ⊥
    write_is_not_read e = cc

-- a client's held pages have the rights that it has
pub held_as_covered : (who : ℕ) (pages : PagesView) (held : List Held) → Covers who pages held → AreAsHeld (right_at pages.rights who) held
held_as_covered who pages held covers =
    are_as_held (right_at pages.rights who) held covers.distinct (λ page right found is e. same found right (sym e ∙ covers.held_so page right is))
  where
    same : (a b : Right) → Some a ≡ Some b → a ≡ b
    same a b e = cc

-- who gives nothing up
pub gives_itself : (who : ℕ) (pages : PagesView) (held : List Held) → Covers who pages held → GivesUp who pages held pages held
gives_itself who pages held covers = record {
  rights_count = refl;
  frames_count = refl;
  holders = covers.holders;
  others = λ client page is differ. refl;
  falls = λ page. falls_itself (right_at pages.rights who page);
  held_is = sym (kept-itself (right_at pages.rights who) held (held_as_covered who pages held covers));
  framed = λ page is. is;
  words = λ modified value stored server own. server;
}

-- the words of what is left are right where those that were held are
pub held_right_kept : (value : ℕ → ℕ → ℕ) (before after : ℕ → Option Right) (held : List Held) → HeldIsRight value held → HeldIsRight value (filter_map (kept_as before after) held)
held_right_kept value before after held right page =
    (elim (words_of page (filter_map (kept_as before after) held)) as (λ o. words_of page (filter_map (kept_as before after) held) ≡ o → IfSome o (λ words. AreWords value page words)) [
      | None ↦ λ _. tt
      | Some words ↦ λ is.
          let was : words_of page held ≡ Some words = words-kept before after page held words is in
          subst (λ (o : Option (List ℕ)). IfSome o (λ words. AreWords value page words)) was (right page)
    ]) refl

-- who gives pages up twice
pub gives_again : (who : ℕ) (pages between after : PagesView) (held held_between held_after : List Held) →
    GivesUp who pages held between held_between → GivesUp who between held_between after held_after → GivesUp who pages held after held_after
gives_again who pages between after held held_between held_after f g = record {
  rights_count = g.rights_count ∙ f.rights_count;
  frames_count = g.frames_count ∙ f.frames_count;
  holders = g.holders;
  others = λ client page is differ. g.others client page is differ ∙ f.others client page is differ;
  falls = λ page. falls_again (right_at pages.rights who page) (right_at between.rights who page) (right_at after.rights who page) (f.falls page) (g.falls page);
  held_is = g.held_is ∙ ap (filter_map (kept_as (right_at between.rights who) (right_at after.rights who))) f.held_is
      ∙ kept-twice (right_at pages.rights who) (right_at between.rights who) (right_at after.rights who) held f.falls g.falls;
  framed = λ page is. g.framed page (f.framed page is);
  words = λ modified value stored server own.
      g.words modified value stored (f.words modified value stored server own)
      (subst (λ (l : List Held). HeldIsRight value l) (sym f.held_is) (held_right_kept value (right_at pages.rights who) (right_at between.rights who) held own));
}

-- a cache still covers what its client has, once some was given up
pub covers_after : (who : ℕ) (pages after : PagesView) (held held_after : List Held) → Covers who pages held → GivesUp who pages held after held_after → Covers who after held_after
covers_after who pages after held held_after covers gives = record {
  client = covers.client;
  holders = gives.holders;
  frames_count = gives.frames_count ∙ covers.frames_count ∙ sym gives.rights_count;
  distinct = subst (λ (l : List Held). ArePagesDistinct l) (sym gives.held_is) (distinct-kept (right_at pages.rights who) (right_at after.rights who) held covers.distinct);
  held_so = λ page right is.
      let before = fallen_from (right_at pages.rights who page) (right_at after.rights who page) right (gives.falls page) is in
      let left : right_of page (filter_map (kept_as (right_at pages.rights who) (right_at after.rights who)) held) ≡ Some right =
      ap (option_map (λ (h : Held). h.right)) (entry_of-kept (right_at pages.rights who) (right_at after.rights who) page held)
      ∙ of_entry page right before.0 before.1 is (entry_of page held) (λ entry found. entry_of-page page held entry found) (covers.held_so page before.0 before.1) in
      ap (right_of page) gives.held_is ∙ left;
  framed = λ page is.
      gives.framed page (covers.framed page (writes_before (right_at pages.rights who page) (right_at after.rights who page) (gives.falls page) is));
}
  where
    of_entry : (page : ℕ) (right before : Right) → right_at pages.rights who page ≡ Some before → right_at after.rights who page ≡ Some right → (o : Option Held) →
        ((entry : Held) → o ≡ Some entry → entry.page ≡ page) → option_map (λ (h : Held). h.right) o ≡ Some before →
        option_map (λ (h : Held). h.right) (option_and_then (kept_as (right_at pages.rights who) (right_at after.rights who)) o) ≡ Some right
    of_entry page right before was is None of e = cc
    of_entry page right before was is (Some entry) of e =
        let at : entry.page ≡ page = of entry refl in
        let left : kept_as (right_at pages.rights who) (right_at after.rights who) entry ≡ Some (record entry { right = right }) =
        ap (λ (q : ℕ). left_of (right_at pages.rights who q) (right_at after.rights who q) entry) at
        ∙ ap (λ (o : Option Right). left_of o (right_at after.rights who page) entry) was ∙ ap (λ (o : Option Right). left_of (Some before) o entry) is in
        ap (option_map (λ (h : Held). h.right)) left

-- the right that changed
pub changed_here : (rights now : List Holders) (who page : ℕ) (right : Option Right) → IsClient who → ChangesOneRight rights now who page right → right_at now who page ≡ right
changed_here rights now who page right client changes =
    let one : nat_eq who who ≡ true = eq-eqb who who refl in
    let two : nat_eq page page ≡ true = eq-eqb page page refl in
    changes who page client ∙ ap (λ (b : Bool). cond (b && nat_eq page page) right (right_at rights who page)) one ∙ ap (λ (b : Bool). cond b right (right_at rights who page)) two

-- the rights to other pages stay
pub changed_elsewhere : (rights now : List Holders) (who page : ℕ) (right : Option Right) → ChangesOneRight rights now who page right →
    (client q : ℕ) → IsClient client → (q ≡ page → ⊥) → right_at now client q ≡ right_at rights client q
changed_elsewhere rights now who page right changes client q is differ =
    changes client q is ∙ ap (λ (b : Bool). cond (nat_eq client who && b) right (right_at rights client q)) (ne_eqb q page differ) ∙ neither (nat_eq client who)
  where
    neither : (b : Bool) → cond (b && false) right (right_at rights client q) ≡ right_at rights client q
    neither true = refl
    neither false = refl

-- the rights of other clients stay
pub changed_for_others : (rights now : List Holders) (who page : ℕ) (right : Option Right) → ChangesOneRight rights now who page right →
    (client q : ℕ) → IsClient client → (client ≡ who → ⊥) → right_at now client q ≡ right_at rights client q
changed_for_others rights now who page right changes client q is differ =
    changes client q is ∙ ap (λ (b : Bool). cond (b && nat_eq q page) right (right_at rights client q)) (ne_eqb client who differ)

-- a writer of a page is a client
pub writer_is_client : (rights : List Holders) (page who : ℕ) → AreAllClients rights → writer_at rights page ≡ Some who → IsClient who
writer_is_client [] page who all e = cc
writer_is_client (Readers crew ∷ rest) zero who all e = cc
writer_is_client (Writer writer ∷ rest) zero who all e = let same : writer ≡ who = cc in subst (λ (w : ℕ). IsClient w) same all.0
writer_is_client (holders ∷ rest) (suc page) who all e = writer_is_client rest page who all.1 e

-- a page that a client reads has no writer
no_writer_beside : (rights : List Holders) (page who : ℕ) → right_at rights who page ≡ Some may.Read → writer_at rights page ≡ None
no_writer_beside [] page who e = cc
no_writer_beside (Readers crew ∷ rest) zero who e = refl
no_writer_beside (Writer writer ∷ rest) zero who e =
    (elim (nat_eq who writer) as (λ b. cond {A = Option Right} b (Some may.Write) None ≡ Some may.Read → Some writer ≡ None) [ true ↦ λ h. cc | false ↦ λ h. cc ]) e
no_writer_beside (holders ∷ rest) (suc page) who e = no_writer_beside rest page who e

-- a writer that has the same right to its page as before writes it still
pub writer_stays : (rights now : List Holders) (page writer : ℕ) → AreAllClients rights → (IsClient writer → right_at now writer page ≡ right_at rights writer page) →
    writer_at rights page ≡ Some writer → writer_at now page ≡ Some writer
writer_stays rights now page writer all same is =
    (writer_holds_to_write now page writer).1 (same (writer_is_client rights page writer all is) ∙ (writer_holds_to_write rights page writer).0 is)

-- a page whose frame there is, is within the frames
within_frames : (frames : List (Option (List ℕ))) (page : ℕ) → IsSome (get_or frames page None) → page < length frames
within_frames [] page is = cc
within_frames (x ∷ xs) zero is = omega arith
within_frames (x ∷ xs) (suc page) is = let rest : page < length xs = within_frames xs page is in omega arith

-- a page that is held has words
pub words_held : (page : ℕ) (held : List Held) → IsSome (right_of page held) → IsSome (words_of page held)
words_held page held is = of_entry (entry_of page held) is
  where
    of_entry : (o : Option Held) → IsSome (option_map (λ (h : Held). h.right) o) → IsSome (option_map (λ (h : Held). h.words) o)
    of_entry None e = e
    of_entry (Some entry) e = refl

-- a page handed in: its frame is the client's, where the client wrote it, and every other frame stays
frame_handed_in : (frames : List (Option (List ℕ))) (page q : ℕ) (words : Option (List ℕ)) (right : Right) → (right ≡ may.Write → page < length frames) →
    get_or (cond (is_to_write right) (set frames page words) frames) q None ≡ cond (is_to_write right && nat_eq q page) words (get_or frames q None)
frame_handed_in frames page q words may.Read within = refl
frame_handed_in frames page q words may.Write within =
    ⊎_elim
    (λ (same : q ≡ page).
    ap (λ (i : ℕ). get_or (set frames page words) i None) same ∙ get_or-set_same frames page words None (within refl)
    ∙ ap (λ (b : Bool). cond b words (get_or frames q None)) (sym (eq-eqb q page same)))
    (λ (differ : q ≡ page → ⊥).
    get_or-set_other frames page q words None differ ∙ ap (λ (b : Bool). cond b words (get_or frames q None)) (sym (ne_eqb q page differ)))
    (cases_eq q page)

-- as many frames as before
length_handed_in : (frames : List (Option (List ℕ))) (page : ℕ) (words : Option (List ℕ)) (right : Right) → length (cond (is_to_write right) (set frames page words) frames) ≡ length frames
length_handed_in frames page words may.Read = refl
length_handed_in frames page words may.Write = length-set frames page words

-- who gives one page up, wholly or to reading
pub gives_one : (who page : ℕ) (keep : Bool) (right : Right) (pages after : PagesView) (held : List Held) → Covers who pages held →
    right_at pages.rights who page ≡ Some right → (keep ≡ true → right ≡ may.Write) → length after.rights ≡ length pages.rights →
    ChangesOneRight pages.rights after.rights who page (cond keep (Some may.Read) None) → AreAllClients after.rights → after.frames ≡ handed_in pages who page held →
    GivesUp who pages held after (cond keep (lowered page held) (others page held))
gives_one who page keep right pages after held covers was writer count changes holders frames = record {
  rights_count = count;
  frames_count = ap length frames_are ∙ length_handed_in pages.frames page (words_of page held) right;
  holders = holders;
  others = λ client q is differ. changed_for_others pages.rights after.rights who page (cond keep (Some may.Read) None) changes client q is differ;
  falls = λ q. ⊎_elim
      (λ (same : q ≡ page). subst (λ (p : ℕ). Falls (right_at pages.rights who p) (right_at after.rights who p)) (sym same) falls_here)
      (λ (differ : q ≡ page → ⊥). subst (λ (o : Option Right). Falls (right_at pages.rights who q) o) (sym (elsewhere q differ)) (falls_itself (right_at pages.rights who q)))
      (cases_eq q page);
  held_is = left_over keep here;
  framed = λ q is. subst (λ (o : Option (List ℕ)). IsSome o) (sym (frame_of q)) (still_framed q (is_to_write right && nat_eq q page) is);
  words = λ modified value stored server own q none.
      subst (λ (o : Option (List ℕ)). MatchOption o ((word : ℕ) → word < 512 → value q word ≡ stored q word) (λ words. AreWords value q words)) (sym (frame_of q))
      (right_words modified value stored server own q none);
}
  where
    here : right_at after.rights who page ≡ cond keep (Some may.Read) None
    here = changed_here pages.rights after.rights who page (cond keep (Some may.Read) None) covers.client changes

    elsewhere : (q : ℕ) → (q ≡ page → ⊥) → right_at after.rights who q ≡ right_at pages.rights who q
    elsewhere q differ = changed_elsewhere pages.rights after.rights who page (cond keep (Some may.Read) None) changes who q covers.client differ

    frames_are : after.frames ≡ cond (is_to_write right) (set pages.frames page (words_of page held)) pages.frames
    frames_are = frames ∙ ap (λ (o : Option Right). cond (writes o) (set pages.frames page (words_of page held)) pages.frames) was

    frame_of : (q : ℕ) → frame_in after q ≡ cond (is_to_write right && nat_eq q page) (words_of page held) (frame_in pages q)
    frame_of q =
        ap (λ (l : List (Option (List ℕ))). get_or l q None) frames_are
        ∙ frame_handed_in pages.frames page q (words_of page held) right
        (λ writes. within_frames pages.frames page (covers.framed page (was ∙ ap (λ (r : Right). Some r) writes)))

    is_held : IsSome (words_of page held)
    is_held = words_held page held (ap is_some (covers.held_so page right was))

    still_framed : (q : ℕ) (b : Bool) → IsSome (frame_in pages q) → IsSome (cond b (words_of page held) (frame_in pages q))
    still_framed q true is = is_held
    still_framed q false is = is

    fallen : (before : Right) (b : Bool) → (b ≡ true → before ≡ may.Write) → Falls (Some before) (cond b (Some may.Read) None)
    fallen may.Write b w = tt
    fallen may.Read true w = refl
    fallen may.Read false w = tt

    falls_here : Falls (right_at pages.rights who page) (right_at after.rights who page)
    falls_here =
        subst (λ (o : Option Right). Falls o (right_at after.rights who page)) (sym was)
        (subst (λ (o : Option Right). Falls (Some right) o) (sym here) (fallen right keep writer))

    left_over : (b : Bool) → right_at after.rights who page ≡ cond b (Some may.Read) None →
        cond b (lowered page held) (others page held) ≡ filter_map (kept_as (right_at pages.rights who) (right_at after.rights who)) held
    left_over true now = kept-lowered (right_at pages.rights who) (right_at after.rights who) page right held was now elsewhere (held_as_covered who pages held covers)
    left_over false now = kept-others (right_at pages.rights who) (right_at after.rights who) page right held was now elsewhere (held_as_covered who pages held covers)

    own_words : (value stored : ℕ → ℕ → ℕ) (q : ℕ) (o : Option (List ℕ)) → IsSome o → IfSome o (λ words. AreWords value q words) →
        MatchOption o ((word : ℕ) → word < 512 → value q word ≡ stored q word) (λ words. AreWords value q words)
    own_words value stored q None is h = cc
    own_words value stored q (Some words) is h = h

    right_words : (modified : ℕ → Bool) (value stored : ℕ → ℕ → ℕ) → ServerIsRight modified value stored pages → HeldIsRight value held → (q : ℕ) → HasNoOpenWriter modified after q →
        MatchOption (cond (is_to_write right && nat_eq q page) (words_of page held) (frame_in pages q)) ((word : ℕ) → word < 512 → value q word ≡ stored q word) (λ words. AreWords value q words)
    right_words modified value stored server own q none =
        ⊎_elim
        (λ (same : q ≡ page).
        subst (λ (b : Bool). MatchOption (cond (is_to_write right && b) (words_of page held) (frame_in pages q)) ((word : ℕ) → word < 512 → value q word ≡ stored q word) (λ words. AreWords value q words))
        (sym (eq-eqb q page same)) (of_page right was same))
        (λ (differ : q ≡ page → ⊥).
        subst (λ (b : Bool). MatchOption (cond (is_to_write right && b) (words_of page held) (frame_in pages q)) ((word : ℕ) → word < 512 → value q word ≡ stored q word) (λ words. AreWords value q words))
        (sym (ne_eqb q page differ))
        (of_others (is_to_write right)
        (server q (λ writer is.
        none writer (writer_stays pages.rights after.rights q writer covers.holders
        (λ client. changed_elsewhere pages.rights after.rights who page (cond keep (Some may.Read) None) changes writer q client differ) is)))))
        (cases_eq q page)
      where
        of_page : (r : Right) → right_at pages.rights who page ≡ Some r → q ≡ page →
            MatchOption (cond (is_to_write r && true) (words_of page held) (frame_in pages q)) ((word : ℕ) → word < 512 → value q word ≡ stored q word) (λ words. AreWords value q words)
        of_page may.Read e same =
            server q (λ writer is. let nobody : writer_at pages.rights q ≡ None = ap (writer_at pages.rights) same ∙ no_writer_beside pages.rights page who e in cc)
        of_page may.Write e same =
            own_words value stored q (words_of page held) is_held
            (subst (λ (p : ℕ). IfSome (words_of page held) (λ words. AreWords value p words)) (sym same) (own page))

        of_others : (b : Bool) → MatchOption (frame_in pages q) ((word : ℕ) → word < 512 → value q word ≡ stored q word) (λ words. AreWords value q words) →
            MatchOption (cond (b && false) (words_of page held) (frame_in pages q)) ((word : ℕ) → word < 512 → value q word ≡ stored q word) (λ words. AreWords value q words)
        of_others true h = h
        of_others false h = h
