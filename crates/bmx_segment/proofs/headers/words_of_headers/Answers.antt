use Rattle.bmx_segment.proofs.HeaderWords.{words_of-read}
use Rattle.bmx_segment.proofs.Standing.{header_of-words}
use Rattle.bmx_segment.proofs.headers.words_of_headers.Goals as goal

pub returns-clause-read : goal.returns-clause-read
returns-clause-read c = λ h third fourth ok. header_of-words h third fourth ok

pub returns-clause-written : goal.returns-clause-written
returns-clause-written c = λ mark name third fourth is. words_of-read mark name third fourth is
