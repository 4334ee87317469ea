use Rattle.codec.proofs.RoundTrips.{books_read_back, books_write_back, acts_read_back, acts_write_back}
use Rattle.codec.proofs.Played.{plays_replay, replays_play}
use Rattle.codec.proofs.After.{outputs_read_back}
use Rattle.codec.proofs.Told.{faults_told, stops_told}
use Rattle.codec.proofs.theorems.formats_agree.Goals as goal

pub returns-clause-books : goal.returns-clause-books
returns-clause-books c = (books_read_back, books_write_back)

pub returns-clause-acts : goal.returns-clause-acts
returns-clause-acts c = (acts_read_back, acts_write_back)

pub returns-clause-replays : goal.returns-clause-replays
returns-clause-replays c = (plays_replay, replays_play)

pub returns-clause-outputs : goal.returns-clause-outputs
returns-clause-outputs c = outputs_read_back

pub returns-clause-faults : goal.returns-clause-faults
returns-clause-faults c = (faults_told, stops_told)
