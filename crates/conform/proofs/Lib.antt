mod Lists
mod ReadFrames
