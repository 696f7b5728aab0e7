-- One name that opens every definition of instruction words: a proof by computation says `unfolding computes`.
use Rattle.base.specs.Test.{when◌then◌else◌, all}
use Rattle.rows.specs.Table.{pointer, first_word}
use Rattle.rows.specs.Words.{has_word, begun_in, begun, two_words, encodable, written}
use Rattle.isa.specs.Words.{finished, reading}

unfoldable pub computes : Unit {0}
unfolding when◌then◌else◌ all pointer first_word has_word begun_in begun two_words finished reading encodable written
computes = tt
