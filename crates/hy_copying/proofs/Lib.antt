mod Copies
mod ExpressionsWithin
mod LivesWithin
mod OpeningWithin
mod StatementsWithin
mod Within
