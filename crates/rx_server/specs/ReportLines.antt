-- What is written of a server that was closed: a line for each of its subjects, with the numbers of the report (this project's own).
use Rattle.std.specs.Prelude.{ℕ, List, ◌++◌, codes}
use Rattle.std.specs.List.{flat_map, zip}
use Rattle.rx_config.specs.Listings.{number_words}
use Rattle.rx_proto.specs.Printing.{line}
use Rattle.rx_server.specs.declared.close.report.SubjectReport.{SubjectReport}

-- the line of a subject: its name, how many observers joined, and how many calls were refused for want of memory
abbrev pub report_line : List ℕ × SubjectReport → List ℕ
report_line (name, subject) = name ++ (number_words (codes " joins ") subject.joins ++ line (number_words (codes " refused ") subject.refused))

-- the lines of a report on subjects of these names
abbrev pub report_lines : List (List ℕ) → List SubjectReport → List ℕ
report_lines names subjects = flat_map report_line (zip names subjects)
