-- The words of options and the names of free words, as they are written.
use Rattle.std.specs.Prelude.{ℕ, List, [], codes}
use Rattle.cmd_table.specs.declared.word.FreeWord.{FreeWord}
use Rattle.cmd_table.specs.declared.word.FreeWord.TheVariants as free
use Rattle.cmd_table.specs.declared.word.OptWord.{OptWord}
use Rattle.cmd_table.specs.declared.word.OptWord.TheVariants.{A, C, E, I, K, L, N, O, P, CapitalP, S, T, V, X, Two}

abbrev pub text_of_word : OptWord → List ℕ
text_of_word A = codes "-a"
text_of_word C = codes "-c"
text_of_word E = codes "-e"
text_of_word I = codes "-i"
text_of_word K = codes "-k"
text_of_word L = codes "-l"
text_of_word N = codes "-n"
text_of_word O = codes "-o"
text_of_word P = codes "-p"
text_of_word CapitalP = codes "-P"
text_of_word S = codes "-s"
text_of_word T = codes "-t"
text_of_word V = codes "-v"
text_of_word X = codes "-x"
text_of_word Two = codes "-2"

-- what a free word is called
abbrev pub text_of_free : FreeWord → List ℕ
text_of_free free.Nothing = []
text_of_free free.State = codes "t.s"
text_of_free free.States = codes "t[.s[:e]]"
text_of_free free.File = codes "file"
text_of_free free.Trace = codes "t"
text_of_free free.Name = codes "name"
text_of_free free.Count = codes "n"
text_of_free free.Words = codes "words"
text_of_free free.Command = codes "command"
