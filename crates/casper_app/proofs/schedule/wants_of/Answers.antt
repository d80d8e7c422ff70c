use Rattle.std.proofs.Common.{◌∙◌, ap, ◌≡◌, length, sym, map, arith}
use Rattle.std.proofs.lemmas.List.{length-map}
use Rattle.casper_text.specs.Span.{word_at}
use Rattle.casper_app.specs.Schedule.{want_of}
use Rattle.casper_app.proofs.WantLemmas.{wants_of_four, wants_of_other_counts}
use Rattle.casper_app.proofs.schedule.wants_of.Goals as goal

pub returns-in_ok-want_of-in-len4-4 : goal.returns-in_ok-want_of-in-len4-4
returns-in_ok-want_of-in-len4-4 c =
    wants_of_four (word_at c.args.line.now) c.args.words.now _ _ _ _ _ _ _ _ _ c.in-len4.len_at_least c.in-len4.len_below
    (ap want_of (sym c.of-in-len4.ensures) ∙ sym c.want_of-in-len4.ensures ∙ c.in_ok-want_of-in-len4.was {u = tt})
    (ap want_of (sym c.of-in-len4-2.ensures) ∙ sym c.want_of-in-len4-2.ensures ∙ c.in_ok-want_of-in-len4-2.was {u = tt})
    (ap want_of (sym c.of-in-len4-3.ensures) ∙ sym c.want_of-in-len4-3.ensures ∙ c.in_ok-want_of-in-len4-3.was {u = tt})
    (ap want_of (sym c.of-in-len4-4.ensures) ∙ sym c.want_of-in-len4-4.ensures ∙ c.in_ok-want_of-in-len4-4.was {u = tt})
    c.rising-in-len4.ensures

pub returns-in_default : goal.returns-in_default
returns-in_default c =
    let same : length (map (word_at c.args.line.now) c.args.words.now) ≡ length c.args.words.now = length-map c.args.words.now (word_at c.args.line.now) in
    sym (wants_of_other_counts (map (word_at c.args.line.now) c.args.words.now) (λ few. omega (arith, c.in_default.len_at_least)))
