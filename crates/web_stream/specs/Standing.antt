-- Where the bytes that come stand, by what is kept of them.
use Rattle.std.specs.Prelude.{option_map}
use Rattle.web_stream.specs.declared.inward.Inward.{Inward}
use Rattle.web_stream.specs.Answers.{answer_frame}
use Rattle.web_stream.specs.Reading.{Reading}

abbrev pub reading_of : Inward → Reading
reading_of a = record {
  kept = a.kept.items;
  key = a.key;
  come = a.come;
  size = a.size;
  is_within = a.is_within;
  over = a.over;
  answer = option_map answer_frame a.answer;
}
