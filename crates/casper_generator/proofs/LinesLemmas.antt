use Rattle.std.proofs.Common.{◌≡◌, ◌<◌, ◌≤◌, ◌+◌, ◌-◌, ℕ, zero, suc, arith, List, [], ◌∷◌, ◌++◌, Option, Some, None, ap, sym, ◌∙◌, refl}
use Rattle.std.proofs.lemmas.Bool.Decides.{nat_tests}
use Rattle.casper_generator.specs.declared.gen_line.GenLine.{GenLine}
use Rattle.casper_generator.specs.declared.gen_line.GenLine.TheVariants as gen
use Rattle.casper_generator.specs.Lines.{word_of, state_after, lines_of_kind, lines_by, drawn_lines, join_lines, serve_lines, finish_lines, lines_left}

-- the lines of each kind
pub reads : (kind client page place value : ℕ) → kind < 7 → lines_of_kind kind client page place value ≡ gen.Read client page place ∷ []
reads kind client page place value h = grind (arith, nat_tests)

pub writes : (kind client page place value : ℕ) → 7 ≤ kind → kind < 13 → lines_of_kind kind client page place value ≡ gen.Write client page place value ∷ []
writes kind client page place value h h' = grind (arith, nat_tests)

pub serves : (kind client page place value : ℕ) → kind ≡ 13 → lines_of_kind kind client page place value ≡ gen.Serve client ∷ []
serves kind client page place value h = ap (λ (k : ℕ). lines_of_kind k client page place value) h

pub stabilises : (kind client page place value : ℕ) → kind ≡ 14 → lines_of_kind kind client page place value ≡ gen.Stabilise client ∷ []
stabilises kind client page place value h = ap (λ (k : ℕ). lines_of_kind k client page place value) h

pub writes_out : (kind client page place value : ℕ) → 15 ≤ kind → lines_of_kind kind client page place value ≡ gen.WriteOut client ∷ gen.Finish client ∷ []
writes_out kind client page place value h = grind (arith, nat_tests)

-- one draw more
drawn_step : (clients ops state : ℕ) → 0 < ops → drawn_lines clients ops state ≡ lines_by clients (word_of state) ++ drawn_lines clients (ops - 1) (state_after state)
unfolding drawn_lines
drawn_step clients zero state h = absurd (omega arith)
drawn_step clients (suc ops) state h = ap (λ (n : ℕ). lines_by clients (word_of state) ++ drawn_lines clients n (state_after state)) (let e : ops ≡ suc ops - 1 = omega arith in e)

-- no draw
drawn_none : (clients ops state : ℕ) → ops ≤ 0 → drawn_lines clients ops state ≡ []
unfolding drawn_lines
drawn_none clients zero state h = refl
drawn_none clients (suc ops) state h = absurd (omega arith)

-- what is left where a client is to join
pub left_join : (clients joined ops : ℕ) (finish : Option ℕ) (served state : ℕ) → joined < clients
    → lines_left clients joined ops finish served state ≡ gen.Join (joined + 1) ∷ lines_left clients (joined + 1) ops finish served state
left_join clients joined ops finish served state h =
    let e : clients - joined ≡ suc (clients - (joined + 1)) = omega arith in
    ap (λ (n : ℕ). join_lines (joined + 1) n ++ (finish_lines finish ++ drawn_lines clients ops state) ++ serve_lines (served + 1) (clients - served)) e

-- what is left after the joins
behind_joins : (clients joined ops : ℕ) (finish : Option ℕ) (served state : ℕ) → clients ≤ joined
    → lines_left clients joined ops finish served state ≡ (finish_lines finish ++ drawn_lines clients ops state) ++ serve_lines (served + 1) (clients - served)
behind_joins clients joined ops finish served state h =
    let e : clients - joined ≡ 0 = omega arith in
    ap (λ (n : ℕ). join_lines (joined + 1) n ++ (finish_lines finish ++ drawn_lines clients ops state) ++ serve_lines (served + 1) (clients - served)) e

-- what is left where a write-out is to be finished
pub left_finish : (clients joined ops : ℕ) (finish : Option ℕ) (lead served state : ℕ) → clients ≤ joined → finish ≡ Some lead
    → lines_left clients joined ops finish served state ≡ gen.Finish lead ∷ lines_left clients joined ops None served state
left_finish clients joined ops finish lead served state h there =
    ap (λ (before : Option ℕ). lines_left clients joined ops before served state) there
    ∙ behind_joins clients joined ops (Some lead) served state h ∙ sym (ap (λ (rest : List GenLine). gen.Finish lead ∷ rest) (behind_joins clients joined ops None served state h))

-- what is left where a draw is next
pub left_drawn : (clients joined ops : ℕ) (before : Option ℕ) (served state : ℕ) (line : GenLine) (finish : Option ℕ) → clients ≤ joined → before ≡ None → 0 < ops
    → lines_by clients (word_of state) ≡ line ∷ finish_lines finish
    → lines_left clients joined ops before served state ≡ line ∷ lines_left clients joined (ops - 1) finish served (state_after state)
left_drawn clients joined ops before served state line finish h done some drawn =
    ap (λ (lead : Option ℕ). lines_left clients joined ops lead served state) done
    ∙ behind_joins clients joined ops None served state h
    ∙ ap (λ (lines : List GenLine). lines ++ serve_lines (served + 1) (clients - served)) (drawn_step clients ops state some)
    ∙ ap (λ (lines : List GenLine). (lines ++ drawn_lines clients (ops - 1) (state_after state)) ++ serve_lines (served + 1) (clients - served)) drawn
    ∙ sym (ap (λ (rest : List GenLine). line ∷ rest) (behind_joins clients joined (ops - 1) finish served (state_after state) h))

-- what is left after the draws
behind_draws : (clients joined ops : ℕ) (finish : Option ℕ) (served state : ℕ) → clients ≤ joined → finish ≡ None → ops ≤ 0
    → lines_left clients joined ops finish served state ≡ serve_lines (served + 1) (clients - served)
behind_draws clients joined ops finish served state h done none =
    ap (λ (lead : Option ℕ). lines_left clients joined ops lead served state) done
    ∙ behind_joins clients joined ops None served state h
    ∙ ap (λ (lines : List GenLine). lines ++ serve_lines (served + 1) (clients - served)) (drawn_none clients ops state none)

-- what is left where a client is to serve
pub left_serve : (clients joined ops : ℕ) (finish : Option ℕ) (served state : ℕ) → clients ≤ joined → finish ≡ None → ops ≤ 0 → served < clients
    → lines_left clients joined ops finish served state ≡ gen.Serve (served + 1) ∷ lines_left clients joined ops finish (served + 1) state
left_serve clients joined ops finish served state h done none more =
    let e : clients - served ≡ suc (clients - (served + 1)) = omega arith in
    behind_draws clients joined ops finish served state h done none
    ∙ ap (serve_lines (served + 1)) e
    ∙ sym (ap (λ (rest : List GenLine). gen.Serve (served + 1) ∷ rest) (behind_draws clients joined ops finish (served + 1) state h done none))

-- nothing is left
pub left_nothing : (clients joined ops : ℕ) (finish : Option ℕ) (served state : ℕ) → clients ≤ joined → finish ≡ None → ops ≤ 0 → clients ≤ served
    → lines_left clients joined ops finish served state ≡ []
left_nothing clients joined ops finish served state h done none all =
    let e : clients - served ≡ 0 = omega arith in
    behind_draws clients joined ops finish served state h done none ∙ ap (serve_lines (served + 1)) e
