-- The rules of a text. The definitions quote them.
--
-- Text is bytes, 65,536 at most. Lines end with a newline; what follows the last newline is a line too unless it is empty. Lines are numbered from 1.
-- A line is read up to the first `#`; its words are separated by spaces, tabs and carriage returns. A line without words is skipped.
-- The first line that has words is N: exactly one word, a number from 16 to 256.
-- Every further line that has words is a call: its first word is document 01's name of a call or its number (1 to 12) in decimal, its further words
-- are the arguments, exactly as many as the table says, each a number.
-- A number is one to ten decimal digits with a value below 2^32.
--
-- The result is either a script (N, count of calls, offset 12, the records; little-endian words) or a line's number and a reason. The first line that
-- can't be read decides. The reasons: 1 "N is not one number from 16 to 256", 2 "unknown call", 3 "too few arguments", 4 "too many arguments",
-- 5 "not a number below 4294967296", 6 "the script is longer than 4096 bytes" (the line whose record would pass the limit), 7 "no N" (no line has words;
-- the line's number is the number of lines + 1). Order within a call line: 2, then 3 or 4, then 5, then 6.
-- Message: `line K: REASON` and a newline; of a text that is too long, only that.
pub mod Assembled
pub mod Messages
pub mod Meant
pub mod Told
