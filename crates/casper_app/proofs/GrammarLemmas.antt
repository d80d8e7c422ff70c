use Rattle.std.proofs.Common.{◌≡◌, ◌^◌, ◌<◌, ◌≤◌, ◌&&◌, ℕ, zero, suc, nat_le, arith, Bool, true, false, cond, List, [], ◌∷◌, map, Option, Some, None, option_map, option_and_then, ap, sym, subst, ◌∙◌, refl, codes}
use Rattle.std.specs.List.{All}
use Rattle.std.specs.Fmt.{decimal}
use Rattle.std.specs.Str.{bytes_eq}
use Rattle.std.proofs.lemmas.Slice.Eq.{bytes_eq-Decides}
use Rattle.std.proofs.lemmas.Bool.{leb-true, le-leb, and_parts}
use Rattle.casper_words.specs.Crew.{IsClient}
use Rattle.casper_words.specs.declared.page.Want.{Want}
use Rattle.casper_text.specs.Number.{number_of}
use Rattle.casper_text.proofs.NumberLemmas.{number_read_back, number_text}
use Rattle.casper_model.specs.declared.event.Event.{Event}
use Rattle.casper_model.specs.declared.event.Event.TheVariants as event
use Rattle.casper_app.specs.Schedule.{client_of, lone_client, place_of, want_of, each_want, are_wants, rising_wants, wants_of, join_of, read_of, write_of, acquire_of, serve_of, depart_of, vanish_of, lose_of, stabilise_of, write_out_of, finish_of, settle_of, event_of, event_of_verb, is_reopen}
use Rattle.casper_app.specs.declared.schedule.Asked.{Asked}
use Rattle.casper_app.specs.declared.schedule.Asked.TheVariants as asks
use Rattle.casper_app.specs.Grammar.{want_text, words_of_event, words_of_asked, AreAsked, IsEvent, IsAskable, EventsAreReadBack, EventsHaveOneText, LinesAreReadBack, LinesHaveOneText}
use Rattle.casper_app.proofs.WantLemmas.{want_read_back, text_of_want, wants_found, wants_pass, each_more}

-- what a chain of optional values gives, where it gives one
given : {A B : Type 0} (f : A → Option B) (o : Option A) (y : B) → option_and_then f o ≡ Some y → (x : A) × (o ≡ Some x) × (f x ≡ Some y)
given f None y gives = absurd (let h : None ≡ Some y = gives in cc)
given f (Some x) y gives = (x, refl, gives)

mapped : {A B : Type 0} (f : A → B) (o : Option A) (y : B) → option_map f o ≡ Some y → (x : A) × (o ≡ Some x) × (f x ≡ y)
mapped f None y gives = absurd (let h : None ≡ Some y = gives in cc)
mapped f (Some x) y gives = (x, refl, (let h : Some (f x) ≡ Some y = gives in cc))

chosen : {A : Type 0} (b : Bool) (x : Option A) (y : A) → cond b x None ≡ Some y → (b ≡ true) × (x ≡ Some y)
chosen true x y gives = (refl, gives)
chosen false x y gives = absurd (let h : None ≡ Some y = gives in cc)

-- a client's text names the client, and no other text does
pub client_read_back : (who : ℕ) → IsClient who → client_of (decimal who) ≡ Some who
client_read_back who client =
    ap (option_and_then (λ (number : ℕ). cond (nat_le 1 number && nat_le number 32) (Some number) None)) (number_read_back (2 ^ 32) who (omega arith) (omega (arith, client.1)))
    ∙ ap (λ (b : Bool). cond (b && nat_le who 32) (Some who) None) (le-leb 1 who client.0)
    ∙ ap (λ (b : Bool). cond b (Some who) None) (le-leb who 32 client.1)

pub client_text : (word : List ℕ) (who : ℕ) → client_of word ≡ Some who → IsClient who × (word ≡ decimal who)
client_text word who names =
    let found = given (λ (number : ℕ). cond (nat_le 1 number && nat_le number 32) (Some number) None) (place_of word) who names in
    let test = chosen (nat_le 1 found.0 && nat_le found.0 32) (Some found.0) who found.2 in
    let same : found.0 ≡ who = (let h : Some found.0 ≡ Some who = test.1 in cc) in
    let bounds = and_parts (nat_le 1 found.0) (nat_le found.0 32) test.0 in
    let least : 1 ≤ found.0 = leb-true 1 found.0 bounds.0 in
    let most : found.0 ≤ 32 = leb-true found.0 32 bounds.1 in
    ((omega arith, omega arith), (number_text (2 ^ 32) word found.0 (omega arith) found.1).1 ∙ ap decimal same)

lone_text : (rest : List (List ℕ)) (who : ℕ) → lone_client rest ≡ Some who → IsClient who × (rest ≡ decimal who ∷ [])
lone_text [] who names = absurd (let h : None ≡ Some who = names in cc)
lone_text (word ∷ []) who names = let named = client_text word who names in (named.0, ap (λ (w : List ℕ). w ∷ []) named.1)
lone_text (word ∷ next ∷ rest) who names = absurd (let h : None ≡ Some who = names in cc)

place_read_back : (place : ℕ) → place < 2 ^ 32 → place_of (decimal place) ≡ Some place
place_read_back place below = number_read_back (2 ^ 32) place (omega arith) below

place_text : (word : List ℕ) (place : ℕ) → place_of word ≡ Some place → (place < 2 ^ 32) × (word ≡ decimal place)
place_text word place names = number_text (2 ^ 32) word place (omega arith) names

-- the pages of wants are numbers that a line can write
abbrev HavePages : List Want → Type 0
HavePages wants = All (λ want. want.page < 2 ^ 32) wants

pages_behind : (want : Want) (wants : List Want) → HavePages (want ∷ wants) → HavePages wants
pages_behind want wants pages k d within = pages (suc k) d (omega arith)

pages_more : (want : Want) (wants : List Want) → want.page < 2 ^ 32 → HavePages wants → HavePages (want ∷ wants)
pages_more want wants first behind zero d within = first
pages_more want wants first behind (suc k) d within = behind k d (omega arith)

-- the texts of wants are read back as the wants
each_read_back : (wants : List Want) → HavePages wants → each_want (map want_text wants) ≡ Some wants
each_read_back [] pages = refl
each_read_back (want ∷ wants) pages =
    each_more (want_text want) (map want_text wants) want wants (want_read_back want (pages zero want (omega arith))) (each_read_back wants (pages_behind want wants pages))

wants_read_back : (wants : List Want) → AreAsked wants → wants_of (map want_text wants) ≡ Some wants
wants_read_back wants asked =
    ap (option_and_then rising_wants) (each_read_back wants asked.1) ∙ ap (λ (b : Bool). cond b (Some wants) None) (wants_pass wants asked.0)

-- and the words that write wants are their texts
each_text : (words : List (List ℕ)) (wants : List Want) → each_want words ≡ Some wants → HavePages wants × (words ≡ map want_text wants)
each_text [] wants gives =
    let same : [] ≡ wants = (let h : Some [] ≡ Some wants = gives in cc) in
    subst (λ (ws : List Want). HavePages ws × ([] ≡ map want_text ws)) same ((λ k d within. absurd (omega arith)), refl)
each_text (word ∷ words) wants gives =
    let first = given (λ (w : Want). option_map (λ (ws : List Want). w ∷ ws) (each_want words)) (want_of word) wants gives in
    let rest = mapped (λ (ws : List Want). first.0 ∷ ws) (each_want words) wants first.2 in
    let text = text_of_want word first.0 first.1 in
    let behind = each_text words rest.0 rest.1 in
    subst (λ (ws : List Want). HavePages ws × (word ∷ words ≡ map want_text ws)) rest.2 (
      pages_more first.0 rest.0 text.0 behind.0,
      ap (λ (w : List ℕ). w ∷ words) text.1 ∙ ap (λ (ws : List (List ℕ)). want_text first.0 ∷ ws) behind.1,
    )

wants_text : (words : List (List ℕ)) (wants : List Want) → wants_of words ≡ Some wants → AreAsked wants × (words ≡ map want_text wants)
wants_text words wants gives =
    let each = given rising_wants (each_want words) wants gives in
    let test = chosen (are_wants each.0) (Some each.0) wants each.2 in
    let same : each.0 ≡ wants = (let h : Some each.0 ≡ Some wants = test.1 in cc) in
    let text = each_text words each.0 each.1 in
    subst (λ (ws : List Want). AreAsked ws × (words ≡ map want_text ws)) same ((wants_found each.0 test.0, text.0), text.1)

pub events_are_read_back : EventsAreReadBack
events_are_read_back (event.Join who) in_ranges = ap (option_map (λ (w : ℕ). event.Join w)) (client_read_back who in_ranges)
events_are_read_back (event.Read who page word) in_ranges =
    ap (option_and_then (λ (w : ℕ). option_and_then (λ (p : ℕ). option_map (λ (x : ℕ). event.Read w p x) (place_of (decimal word))) (place_of (decimal page)))) (client_read_back who in_ranges.0)
    ∙ ap (option_and_then (λ (p : ℕ). option_map (λ (x : ℕ). event.Read who p x) (place_of (decimal word)))) (place_read_back page in_ranges.1)
    ∙ ap (option_map (λ (x : ℕ). event.Read who page x)) (place_read_back word in_ranges.2)
events_are_read_back (event.Write who page word value) in_ranges =
    ap (option_and_then (λ (w : ℕ). option_and_then (λ (p : ℕ). option_and_then (λ (x : ℕ). option_map (λ (v : ℕ). event.Write w p x v) (number_of (decimal value))) (place_of (decimal word))) (place_of (decimal page)))) (client_read_back who in_ranges.0)
    ∙ ap (option_and_then (λ (p : ℕ). option_and_then (λ (x : ℕ). option_map (λ (v : ℕ). event.Write who p x v) (number_of (decimal value))) (place_of (decimal word)))) (place_read_back page in_ranges.1)
    ∙ ap (option_and_then (λ (x : ℕ). option_map (λ (v : ℕ). event.Write who page x v) (number_of (decimal value)))) (place_read_back word in_ranges.2)
    ∙ ap (option_map (λ (v : ℕ). event.Write who page word v)) (number_read_back (2 ^ 64) value (omega arith) in_ranges.3)
events_are_read_back (event.Acquire who wants) in_ranges =
    ap (option_and_then (λ (w : ℕ). option_map (λ (ws : List Want). event.Acquire w ws) (wants_of (map want_text wants)))) (client_read_back who in_ranges.0)
    ∙ ap (option_map (λ (ws : List Want). event.Acquire who ws)) (wants_read_back wants in_ranges.1)
events_are_read_back (event.Serve who) in_ranges = ap (option_map (λ (w : ℕ). event.Serve w)) (client_read_back who in_ranges)
events_are_read_back (event.Depart who) in_ranges = ap (option_map (λ (w : ℕ). event.Depart w)) (client_read_back who in_ranges)
events_are_read_back (event.Hold who wants) in_ranges = absurd in_ranges
events_are_read_back (event.Stabilise who) in_ranges = ap (option_map (λ (w : ℕ). event.Stabilise w)) (client_read_back who in_ranges)
events_are_read_back (event.WriteOut lead) in_ranges = ap (option_map (λ (w : ℕ). event.WriteOut w)) (client_read_back lead in_ranges)
events_are_read_back (event.Finish lead) in_ranges = ap (option_map (λ (w : ℕ). event.Finish w)) (client_read_back lead in_ranges)
events_are_read_back event.Settle in_ranges = refl
events_are_read_back (event.Vanish who) in_ranges = ap (option_map (λ (w : ℕ). event.Vanish w)) (client_read_back who in_ranges)
events_are_read_back (event.Lose who) in_ranges = ap (option_map (λ (w : ℕ). event.Lose w)) (client_read_back who in_ranges)

-- what stands after a verb has one text
abbrev HasText : List ℕ → List (List ℕ) → Event → Type 0
HasText verb rest asked = IsEvent asked × (verb ∷ rest ≡ words_of_event asked)

nothing_asked : {P : Type 0} (asked : Event) → None ≡ Some asked → P
nothing_asked asked asks = absurd (let h : None ≡ Some asked = asks in cc)

join_text : (rest : List (List ℕ)) (asked : Event) → join_of rest ≡ Some asked → HasText (codes "join") rest asked
join_text rest asked asks =
    let who = mapped (λ (w : ℕ). event.Join w) (lone_client rest) asked asks in
    let named = lone_text rest who.0 who.1 in
    subst (HasText (codes "join") rest) who.2 (named.0, ap (λ (r : List (List ℕ)). codes "join" ∷ r) named.1)

serve_text : (rest : List (List ℕ)) (asked : Event) → serve_of rest ≡ Some asked → HasText (codes "serve") rest asked
serve_text rest asked asks =
    let who = mapped (λ (w : ℕ). event.Serve w) (lone_client rest) asked asks in
    let named = lone_text rest who.0 who.1 in
    subst (HasText (codes "serve") rest) who.2 (named.0, ap (λ (r : List (List ℕ)). codes "serve" ∷ r) named.1)

depart_text : (rest : List (List ℕ)) (asked : Event) → depart_of rest ≡ Some asked → HasText (codes "depart") rest asked
depart_text rest asked asks =
    let who = mapped (λ (w : ℕ). event.Depart w) (lone_client rest) asked asks in
    let named = lone_text rest who.0 who.1 in
    subst (HasText (codes "depart") rest) who.2 (named.0, ap (λ (r : List (List ℕ)). codes "depart" ∷ r) named.1)

vanish_text : (rest : List (List ℕ)) (asked : Event) → vanish_of rest ≡ Some asked → HasText (codes "vanish") rest asked
vanish_text rest asked asks =
    let who = mapped (λ (w : ℕ). event.Vanish w) (lone_client rest) asked asks in
    let named = lone_text rest who.0 who.1 in
    subst (HasText (codes "vanish") rest) who.2 (named.0, ap (λ (r : List (List ℕ)). codes "vanish" ∷ r) named.1)

lose_text : (rest : List (List ℕ)) (asked : Event) → lose_of rest ≡ Some asked → HasText (codes "lose") rest asked
lose_text rest asked asks =
    let who = mapped (λ (w : ℕ). event.Lose w) (lone_client rest) asked asks in
    let named = lone_text rest who.0 who.1 in
    subst (HasText (codes "lose") rest) who.2 (named.0, ap (λ (r : List (List ℕ)). codes "lose" ∷ r) named.1)

stabilise_text : (rest : List (List ℕ)) (asked : Event) → stabilise_of rest ≡ Some asked → HasText (codes "stabilise") rest asked
stabilise_text rest asked asks =
    let who = mapped (λ (w : ℕ). event.Stabilise w) (lone_client rest) asked asks in
    let named = lone_text rest who.0 who.1 in
    subst (HasText (codes "stabilise") rest) who.2 (named.0, ap (λ (r : List (List ℕ)). codes "stabilise" ∷ r) named.1)

write_out_text : (rest : List (List ℕ)) (asked : Event) → write_out_of rest ≡ Some asked → HasText (codes "writeout") rest asked
write_out_text rest asked asks =
    let who = mapped (λ (w : ℕ). event.WriteOut w) (lone_client rest) asked asks in
    let named = lone_text rest who.0 who.1 in
    subst (HasText (codes "writeout") rest) who.2 (named.0, ap (λ (r : List (List ℕ)). codes "writeout" ∷ r) named.1)

finish_text : (rest : List (List ℕ)) (asked : Event) → finish_of rest ≡ Some asked → HasText (codes "finish") rest asked
finish_text rest asked asks =
    let who = mapped (λ (w : ℕ). event.Finish w) (lone_client rest) asked asks in
    let named = lone_text rest who.0 who.1 in
    subst (HasText (codes "finish") rest) who.2 (named.0, ap (λ (r : List (List ℕ)). codes "finish" ∷ r) named.1)

settle_text : (rest : List (List ℕ)) (asked : Event) → settle_of rest ≡ Some asked → HasText (codes "settle") rest asked
settle_text [] asked asks = let is : event.Settle ≡ asked = cc in subst (HasText (codes "settle") []) is (tt, refl)
settle_text (word ∷ rest) asked asks = nothing_asked asked asks

read_text : (rest : List (List ℕ)) (asked : Event) → read_of rest ≡ Some asked → HasText (codes "read") rest asked
read_text [] asked asks = nothing_asked asked asks
read_text (client ∷ []) asked asks = nothing_asked asked asks
read_text (client ∷ page ∷ []) asked asks = nothing_asked asked asks
read_text (client ∷ page ∷ word ∷ []) asked asks =
    let who = given (λ (w : ℕ). option_and_then (λ (p : ℕ). option_map (λ (x : ℕ). event.Read w p x) (place_of word)) (place_of page)) (client_of client) asked asks in
    let at = given (λ (p : ℕ). option_map (λ (x : ℕ). event.Read who.0 p x) (place_of word)) (place_of page) asked who.2 in
    let place = mapped (λ (x : ℕ). event.Read who.0 at.0 x) (place_of word) asked at.2 in
    let named = client_text client who.0 who.1 in
    let paged = place_text page at.0 at.1 in
    let placed = place_text word place.0 place.1 in
    subst (HasText (codes "read") (client ∷ page ∷ word ∷ [])) place.2 (
      (named.0, paged.0, placed.0),
      ap (λ (c : List ℕ). codes "read" ∷ c ∷ page ∷ word ∷ []) named.1
          ∙ ap (λ (p : List ℕ). codes "read" ∷ decimal who.0 ∷ p ∷ word ∷ []) paged.1
          ∙ ap (λ (x : List ℕ). codes "read" ∷ decimal who.0 ∷ decimal at.0 ∷ x ∷ []) placed.1,
    )
read_text (client ∷ page ∷ word ∷ more ∷ rest) asked asks = nothing_asked asked asks

write_text : (rest : List (List ℕ)) (asked : Event) → write_of rest ≡ Some asked → HasText (codes "write") rest asked
write_text [] asked asks = nothing_asked asked asks
write_text (client ∷ []) asked asks = nothing_asked asked asks
write_text (client ∷ page ∷ []) asked asks = nothing_asked asked asks
write_text (client ∷ page ∷ word ∷ []) asked asks = nothing_asked asked asks
write_text (client ∷ page ∷ word ∷ value ∷ []) asked asks =
    let who = given (λ (w : ℕ). option_and_then (λ (p : ℕ). option_and_then (λ (x : ℕ). option_map (λ (v : ℕ). event.Write w p x v) (number_of value)) (place_of word)) (place_of page)) (client_of client) asked asks in
    let at = given (λ (p : ℕ). option_and_then (λ (x : ℕ). option_map (λ (v : ℕ). event.Write who.0 p x v) (number_of value)) (place_of word)) (place_of page) asked who.2 in
    let place = given (λ (x : ℕ). option_map (λ (v : ℕ). event.Write who.0 at.0 x v) (number_of value)) (place_of word) asked at.2 in
    let written = mapped (λ (v : ℕ). event.Write who.0 at.0 place.0 v) (number_of value) asked place.2 in
    let named = client_text client who.0 who.1 in
    let paged = place_text page at.0 at.1 in
    let placed = place_text word place.0 place.1 in
    let valued = number_text (2 ^ 64) value written.0 (omega arith) written.1 in
    subst (HasText (codes "write") (client ∷ page ∷ word ∷ value ∷ [])) written.2 (
      (named.0, paged.0, placed.0, valued.0),
      ap (λ (c : List ℕ). codes "write" ∷ c ∷ page ∷ word ∷ value ∷ []) named.1
          ∙ ap (λ (p : List ℕ). codes "write" ∷ decimal who.0 ∷ p ∷ word ∷ value ∷ []) paged.1
          ∙ ap (λ (x : List ℕ). codes "write" ∷ decimal who.0 ∷ decimal at.0 ∷ x ∷ value ∷ []) placed.1
          ∙ ap (λ (v : List ℕ). codes "write" ∷ decimal who.0 ∷ decimal at.0 ∷ decimal place.0 ∷ v ∷ []) valued.1,
    )
write_text (client ∷ page ∷ word ∷ value ∷ more ∷ rest) asked asks = nothing_asked asked asks

acquire_text : (rest : List (List ℕ)) (asked : Event) → acquire_of rest ≡ Some asked → HasText (codes "acquire") rest asked
acquire_text [] asked asks = nothing_asked asked asks
acquire_text (client ∷ wanted) asked asks =
    let who = given (λ (w : ℕ). option_map (λ (ws : List Want). event.Acquire w ws) (wants_of wanted)) (client_of client) asked asks in
    let wants = mapped (λ (ws : List Want). event.Acquire who.0 ws) (wants_of wanted) asked who.2 in
    let named = client_text client who.0 who.1 in
    let texts = wants_text wanted wants.0 wants.1 in
    subst (HasText (codes "acquire") (client ∷ wanted)) wants.2 (
      (named.0, texts.0),
      ap (λ (c : List ℕ). codes "acquire" ∷ c ∷ wanted) named.1
          ∙ ap (λ (ws : List (List ℕ)). codes "acquire" ∷ decimal who.0 ∷ ws) texts.1,
    )

-- of a verb that is one word or another, what is asked for is what stands after the one that it is
by_verb : (verb known : List ℕ) (rest : List (List ℕ)) (asked : Event) (behind other : Option Event)
    → (behind ≡ Some asked → HasText known rest asked) → (other ≡ Some asked → HasText verb rest asked)
    → cond (bytes_eq verb known) behind other ≡ Some asked → HasText verb rest asked
by_verb verb known rest asked behind other here there asks = by_test (bytes_eq verb known) (bytes_eq-Decides verb known).0 asks
  where
    by_test : (b : Bool) → (b ≡ true → verb ≡ known) → cond b behind other ≡ Some asked → HasText verb rest asked
    by_test true same gives = subst (λ (v : List ℕ). HasText v rest asked) (sym (same refl)) (here gives)
    by_test false same gives = there gives

event_text : (verb : List ℕ) (rest : List (List ℕ)) (asked : Event) → event_of_verb verb rest ≡ Some asked → HasText verb rest asked
event_text verb rest asked =
    by_verb verb (codes "join") rest asked (join_of rest) _ (join_text rest asked)
    (by_verb verb (codes "read") rest asked (read_of rest) _ (read_text rest asked)
    (by_verb verb (codes "write") rest asked (write_of rest) _ (write_text rest asked)
    (by_verb verb (codes "acquire") rest asked (acquire_of rest) _ (acquire_text rest asked)
    (by_verb verb (codes "serve") rest asked (serve_of rest) _ (serve_text rest asked)
    (by_verb verb (codes "depart") rest asked (depart_of rest) _ (depart_text rest asked)
    (by_verb verb (codes "vanish") rest asked (vanish_of rest) _ (vanish_text rest asked)
    (by_verb verb (codes "lose") rest asked (lose_of rest) _ (lose_text rest asked)
    (by_verb verb (codes "stabilise") rest asked (stabilise_of rest) _ (stabilise_text rest asked)
    (by_verb verb (codes "writeout") rest asked (write_out_of rest) _ (write_out_text rest asked)
    (by_verb verb (codes "finish") rest asked (finish_of rest) _ (finish_text rest asked)
    (by_verb verb (codes "settle") rest asked (settle_of rest) None (settle_text rest asked) (nothing_asked asked))))))))))))

pub events_have_one_text : EventsHaveOneText
events_have_one_text [] asked asks = nothing_asked asked asks
events_have_one_text (verb ∷ rest) asked asks = event_text verb rest asked asks

-- no event's line is a reopen's
no_reopen : (asked : Event) → IsEvent asked → is_reopen (words_of_event asked) ≡ false
no_reopen (event.Join who) is = refl
no_reopen (event.Read who page word) is = refl
no_reopen (event.Write who page word value) is = refl
no_reopen (event.Acquire who wants) is = refl
no_reopen (event.Serve who) is = refl
no_reopen (event.Depart who) is = refl
no_reopen (event.Hold who wants) is = absurd is
no_reopen (event.Stabilise who) is = refl
no_reopen (event.WriteOut lead) is = refl
no_reopen (event.Finish lead) is = refl
no_reopen event.Settle is = refl
no_reopen (event.Vanish who) is = refl
no_reopen (event.Lose who) is = refl

pub lines_are_read_back : LinesAreReadBack
lines_are_read_back (asks.Event asked) is =
    ap (λ (test : Bool). cond test (Some asks.Reopen) (option_map (λ (one : Event). asks.Event one) (event_of (words_of_event asked)))) (no_reopen asked is)
    ∙ ap (option_map (λ (one : Event). asks.Event one)) (events_are_read_back asked is)
lines_are_read_back asks.Reopen is = refl

HasLine : List (List ℕ) → Asked → Type 0
HasLine words one = IsAskable one × (words ≡ words_of_asked one)

-- words of no reopen ask for an event
event_line : (words : List (List ℕ)) (one : Asked) → option_map (λ (e : Event). asks.Event e) (event_of words) ≡ Some one → HasLine words one
unfolding HasLine
event_line words one is =
    let found = mapped (λ (e : Event). asks.Event e) (event_of words) one is in
    let text = events_have_one_text words found.0 found.1 in
    subst (λ (a : Asked). IsAskable a × (words ≡ words_of_asked a)) found.2 text

pub lines_have_one_text : LinesHaveOneText
unfolding HasLine
lines_have_one_text [] one is = event_line [] one is
lines_have_one_text (verb ∷ []) one is = by_test (bytes_eq verb (codes "reopen")) (bytes_eq-Decides verb (codes "reopen")).0 is
  where
    by_test : (test : Bool) → (test ≡ true → verb ≡ codes "reopen") → cond test (Some asks.Reopen) (option_map (λ (e : Event). asks.Event e) (event_of (verb ∷ []))) ≡ Some one
        → IsAskable one × (verb ∷ [] ≡ words_of_asked one)
    by_test true same is =
        let reopens : asks.Reopen ≡ one = cc in
        subst (λ (a : Asked). IsAskable a × (verb ∷ [] ≡ words_of_asked a)) reopens (tt, ap (λ (v : List ℕ). v ∷ []) (same refl))
    by_test false same is = event_line (verb ∷ []) one is
lines_have_one_text (verb ∷ next ∷ rest) one is = event_line (verb ∷ next ∷ rest) one is
