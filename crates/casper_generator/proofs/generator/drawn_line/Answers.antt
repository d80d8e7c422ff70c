use Rattle.std.proofs.Common.{◌/◌, ◌%◌, ◌^◌, ◌∷◌, [], ℕ, ap, sym, ◌∙◌, arith}
use Rattle.casper_generator.specs.Lines.{lines_by, client_of, page_of, place_of}
use Rattle.casper_generator.specs.declared.gen_line.GenLine.TheVariants as gen
use Rattle.casper_generator.proofs.LinesLemmas.{reads, writes, serves, stabilises, writes_out}
use Rattle.casper_generator.proofs.generator.drawn_line.Goals as goal

pub returns-in-13 : goal.returns-in-13
unfolding lines_by
returns-in-13 c =
    serves (c.args.word / 64 % 16) (client_of c.args.clients c.args.word) (page_of c.args.word) (place_of c.args.word) (c.args.word / 2 ^ 32) c.in-13.is
    ∙ ap (λ (who : ℕ). gen.Serve who ∷ []) (sym c.drawn_client-who.ensures)

pub returns-in-14 : goal.returns-in-14
unfolding lines_by
returns-in-14 c =
    stabilises (c.args.word / 64 % 16) (client_of c.args.clients c.args.word) (page_of c.args.word) (place_of c.args.word) (c.args.word / 2 ^ 32) c.in-14.is
    ∙ ap (λ (who : ℕ). gen.Stabilise who ∷ []) (sym c.drawn_client-who.ensures)

pub returns-in-0-to-6 : goal.returns-in-0-to-6
unfolding lines_by
returns-in-0-to-6 c =
    reads (c.args.word / 64 % 16) (client_of c.args.clients c.args.word) (page_of c.args.word) (place_of c.args.word) (c.args.word / 2 ^ 32) (omega arith)
    ∙ ap (λ (who : ℕ). gen.Read who (page_of c.args.word) (place_of c.args.word) ∷ []) (sym c.drawn_client-who.ensures)

pub returns-in-7-to-12 : goal.returns-in-7-to-12
unfolding lines_by
returns-in-7-to-12 c =
    writes (c.args.word / 64 % 16) (client_of c.args.clients c.args.word) (page_of c.args.word) (place_of c.args.word) (c.args.word / 2 ^ 32) (omega arith) (omega arith)
    ∙ ap (λ (who : ℕ). gen.Write who (page_of c.args.word) (place_of c.args.word) (c.args.word / 2 ^ 32) ∷ []) (sym c.drawn_client-who.ensures)

pub returns-in_default : goal.returns-in_default
unfolding lines_by
returns-in_default c =
    writes_out (c.args.word / 64 % 16) (client_of c.args.clients c.args.word) (page_of c.args.word) (place_of c.args.word) (c.args.word / 2 ^ 32) (omega arith)
    ∙ ap (λ (who : ℕ). gen.WriteOut who ∷ gen.Finish who ∷ []) (sym c.drawn_client-who.ensures)
