use Rattle.casper_app.proofs.ChainLemmas.{played_chain, plays_are_sessions}
use Rattle.casper_app.proofs.laws.chain_laws.Goals as goal

pub returns : goal.returns
returns c = record { sessions = plays_are_sessions; chain = played_chain }
